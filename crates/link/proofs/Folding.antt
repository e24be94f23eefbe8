-- A fold over the bits finds the lowest that is early or late.
use Rattle.std.proofs.Common.{◌≡◌, ℕ, suc, ◌+◌, ◌-◌, ◌<◌, List, [], ◌∷◌, Some, None, Ok, Err, Option, MatchOption, sym, refl, ap, ◌∙◌, subst, ap₂, arith}
use Rattle.std.specs.declared.ops.Range.{Range}
use Rattle.std.specs.Range.{range_steps}
use Rattle.std.specs.List.{FoldsTo}
use Rattle.std.specs.Iterator.{Yields, YieldsThen, CallableAtEachTurn}
use Rattle.ends.specs.Times.{start_of}
use Rattle.ends.specs.Sender.{SenderState}
use Rattle.ends.specs.Receiver.{ReceiverState}
use Rattle.link.specs.declared.rates.Verdict.{Verdict}
use Rattle.link.specs.declared.rates.Verdict.TheVariants.{Passes}
use Rattle.link.specs.Judging.{bit_judged, judged}
use Rattle.link.proofs.Judging.{goes_on, stops}

-- the numbers of a range, one after the other
abbrev pub upward : Range ℕ → Option ℕ → Range ℕ → Type 0
upward = range_steps (λ m n. n - m) (λ m n. n ≡ m + 1)

-- a fold over the bits: where a bit begins is carried from turn to turn, beside the closure
module _ (s : SenderState) (r : ReceiverState) (a b bits : ℕ) {F : Type 0} (f : F) where
  -- the bits before bit k are neither early nor late, and it begins where they end
  pub record Begun (k : ℕ) (p : F × ℕ) : Type 0 where
    pub same : p.0 ≡ f
    pub begins : p.1 ≡ start_of s.lengths k
    pub so_far : judged s r a b k (bits - k) ≡ judged s r a b 0 bits

  -- a turn that goes on: the bit is neither early nor late
  abbrev pub Turns : (F × ℕ → ℕ → F × ℕ → Type 0) → Type 0
  Turns Turn = (begin k : ℕ) (q : F × ℕ) → Turn (f, begin) k q → (q.0 ≡ f) × (bit_judged s r a b k ≡ Ok q.1)

  begun : (k : ℕ) → k ≡ 0 → Begun k (f, 0)
  begun k none = record { same = refl; begins = ap (start_of s.lengths) (sym none); so_far = ap₂ {C = Verdict} (λ m n. judged s r a b m n) none (omega (arith, none)) }

  one_less : (k : ℕ) → k < bits → bits - k ≡ suc (bits - (k + 1))
  one_less k inside = omega arith

  module _ (Turn : F × ℕ → ℕ → F × ℕ → Type 0) (turns : Turns Turn) where
    next : (k : ℕ) (p q : F × ℕ) → k < bits → Begun k p → Turn p k q → Begun (k + 1) q
    next k p q inside at t =
        let x = turns p.1 k q (subst (λ (h : F). Turn (h, p.1) k q) at.same t) in
        let y = goes_on s r a b k (bits - (k + 1)) q.1 x.1 in
        record { same = x.0; begins = y.0; so_far = sym y.1 ∙ sym (ap (judged s r a b k) (one_less k inside)) ∙ at.so_far }

    kept : (xs : List ℕ) (t u : Range ℕ) (p q : F × ℕ) → t.end ≡ bits → Begun t.start p → Yields upward t xs u → FoldsTo {P = F × ℕ} Turn p xs q
        → (u.end ≡ bits) × Begun u.start q
    kept [] t u p q ends at y c = (
      sym (ap (λ (k : Range ℕ). k.end) y) ∙ ends,
      subst (λ (k : Range ℕ). Begun k.start q) y (subst (λ (z : F × ℕ). Begun t.start z) c at),
    )
    kept (x ∷ xs) t u p q ends at y c =
        let goes : Begun (t.start + 1) c.0 = next t.start p c.0 (omega (arith, y.1.1.0, ends)) at (subst (λ (k : ℕ). Turn p k c.0) y.1.1.1 c.1) in
        kept xs y.0 u c.0 q (y.1.0 ∙ ends) (subst (λ (k : ℕ). Begun k c.0) (sym y.1.1.2) goes) y.2 c.2

  -- the closure is asked of each bit where it begins
  pub asked : {Turn : F × ℕ → ℕ → F × ℕ → Type 0} {Ask : F × ℕ → ℕ → Type 0} → Turns Turn
      → ((begin k : ℕ) → k < bits → begin ≡ start_of s.lengths k → Ask (f, begin) k) → {range : Range ℕ} → range.start ≡ 0 → range.end ≡ bits
      → CallableAtEachTurn upward Turn Ask range (f, 0)
  asked {Turn} {Ask} turns asks {range} starts ends = record {
    at = λ xs t q x u y c e.
        let z = kept Turn turns xs range t (f, 0) q ends (begun range.start starts) y c in
        subst (λ (h : F). Ask (h, q.1) x) (sym z.1.same) (asks q.1 x (omega (arith, e.1.0, e.1.1, z.0)) (z.1.begins ∙ ap (start_of s.lengths) (sym e.1.1)));
  }

  -- what the fold comes to
  abbrev pub Folded : (F × ℕ → ℕ → F × ℕ → Type 0) → (ℕ → Type 0) → (F → ℕ → ℕ → Type 0) → Range ℕ → Range ℕ → Type 0
  Folded Turn Whole Stop range u = (xs : List ℕ) × (o : Option ℕ) × (h : F) × (begin : ℕ) × YieldsThen upward range xs o u
      × FoldsTo {P = F × ℕ} Turn (f, 0) xs (h, begin) × MatchOption o (Whole begin) (Stop h begin)

  pub found : {Turn : F × ℕ → ℕ → F × ℕ → Type 0} {Whole : ℕ → Type 0} {Stop : F → ℕ → ℕ → Type 0} {range u : Range ℕ}
      → Folded Turn Whole Stop range u → range.start ≡ 0 → range.end ≡ bits → Turns Turn → (v : Verdict) → ((end : ℕ) → Whole end → v ≡ Passes) → ((begin k : ℕ) → Stop f begin k → bit_judged s r a b k ≡ Err v) → v ≡ judged s r a b 0 bits
  found {Turn} {Whole} {Stop} {range} {u} d starts ends turns v whole stop = go d.1 d.4.2 d.6
    where
      z : (d.4.0.end ≡ bits) × Begun d.4.0.start (d.2, d.3)
      z = kept Turn turns d.0 range d.4.0 (f, 0) (d.2, d.3) ends (begun range.start starts) d.4.1 d.5

      go : (o : Option ℕ) → upward d.4.0 o u → MatchOption o (Whole d.3) (Stop d.2 d.3) → v ≡ judged s r a b 0 bits
      go None e m = let none : bits - d.4.0.start ≡ 0 = omega (arith, e.1.0, z.0) in whole d.3 m ∙ sym (ap (judged s r a b d.4.0.start) none) ∙ z.1.so_far
      go (Some x) e m =
          let k : ℕ = d.4.0.start in
          let is : bit_judged s r a b k ≡ Err v = ap (bit_judged s r a b) (sym e.1.1) ∙ stop d.3 x (subst (λ (h : F). Stop h d.3 x) z.1.same m) in
          sym (stops s r a b k (bits - (k + 1)) v is) ∙ sym (ap (judged s r a b k) (one_less k (omega (arith, e.1.0, z.0)))) ∙ z.1.so_far
