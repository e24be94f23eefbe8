-- The levels on UTXD are those of a bare sender.
use Rattle.std.proofs.Common.{◌≡◌, ℕ, ◌^◌, ◌<◌, ◌≤◌, Bool, true, false, if◌then◌else◌, ◌&&◌, ◌||◌, ◌==◌, List, [], ◌∷◌, ◌++◌, length, Some, None, Ok, Err, Option, option_map, Result, sym, refl, ap, ◌∙◌, subst, ap₂}
use Rattle.std.proofs.lemmas.Bool.{eqb-true}
use Rattle.std.proofs.Math.Bool.{and-true}
use Rattle.line.specs.declared.level.Level.{Level}
use Rattle.line.specs.declared.refusal.Refusal.{Refusal}
use Rattle.line.specs.declared.refusal.Refusal.TheVariants.{Closed, Full}
use Rattle.line.specs.Frames.{width}
use Rattle.std.specs.Option.{ForSome}
use Rattle.ends.specs.Sender.{SenderState, empty, accepted, sent, after_send}
use Rattle.ends.specs.BareSender.{meant}
use Rattle.chip.specs.declared.mode.Mode.{Mode}
use Rattle.chip.specs.Bytes.{has}
use Rattle.chip.specs.Modes.{format_of, character_of}
use Rattle.chip.specs.declared.pair.Ends.{Ends}
use Rattle.chip.specs.Pairs.{EndsState, ends_of, ends_clocked, ends_loaded}
use Rattle.chip.specs.declared.chip.Chip.{Chip}
use Rattle.chip.specs.Chips.{ChipState, chip_of, holding, resets, write_answer, written, clocked, leaves, on_line, utxd}
use Rattle.chip.specs.Acts.{Act, writes, reads, clocks, NoReset, on_utxd, Step, loads, said, AllTaken, steps}
use Rattle.chip.specs.Laws.{Speaks}
use Rattle.chip.proofs.Clocks.{room_after, send_format, send_capacity, few_after, one_waits}
use Rattle.chip.proofs.Writes.{narrow, load_taken, waits_then, load_format, load_capacity, load_few}

-- what ties the sender to the registers
pub record Sound (m : Mode) (u : Bool) (s : SenderState) : Type 0 where
  pub wide : width s.format ≡ width (format_of m)
  pub one : s.capacity ≡ 1
  pub room : u ≡ empty s.waiting
  pub few : length s.waiting ≤ 1

-- the two things that are shown of some acts
abbrev Bare : SenderState → ChipState → List Act → Type 0
Bare s c xs = (on_utxd c xs ≡ said s (steps c xs)) × AllTaken s (steps c xs)

clock_sound : (m : Mode) (u : Bool) (s : SenderState) → Sound m u s → Sound m (u || leaves s) (after_send s)
clock_sound m u s ok = record {
  wide = ap width (send_format s) ∙ ok.wide;
  one = send_capacity s ∙ ok.one;
  room = ap (λ (b : Bool). b || leaves s) ok.room ∙ sym (room_after s s.left s.waiting ok.few);
  few = few_after s s.left s.waiting ok.few;
}

-- a write to a chip that runs
module _ (c : ChipState) (e : EndsState) (is : c.ends ≡ Some e) (a v : ℕ) where
  not_open : a ≡ 0x70 → has v 0x01 ≡ false → write_answer c a v ≡ Err Closed
  not_open at off = simp (at, off, is)

  not_full : a ≡ 0x77 → c.utxifg ≡ false → write_answer c a v ≡ Err Full
  not_full at off = simp (at, off, is)

apart : (x y : Result Unit Refusal) (r : Refusal) → x ≡ y → x ≡ Ok tt → y ≡ Err r → ⊥
apart x y r same p q = cc

module _ (c : ChipState) (e : EndsState) (is : c.ends ≡ Some e) (ok : Sound c.mode c.utxifg e.sender) (a v : ℕ) (off : resets a v ≡ false) (xs : List Act)
    (on : (d : ChipState) (f : EndsState) → d.ends ≡ Some f → Sound d.mode d.utxifg f.sender → Bare f.sender d xs) where
  abbrev ch : ℕ
  ch = character_of c.mode c.transmit.txwake v

  -- what is shown, with the answer and the two tests of the address put in
  abbrev Goal : Result Unit Refusal → Bool → Type 0
  Goal x b7 =
      let d : ChipState = if accepted x then written c a v else c in
      let ss : List Step = (if b7 && accepted x then loads ch ∷ [] else []) ++ steps d xs in
      (on_utxd d xs ≡ said e.sender ss) × AllTaken e.sender ss

  same_mode : (a == 0x70) ≡ false → (written c a v).mode ≡ c.mode
  same_mode at0 = simp at0

  -- UTXBUF takes the byte
  taken : (y : Unit {0}) → write_answer c a v ≡ Ok y → (a == 0x70) ≡ false → (a == 0x77) ≡ true → Goal (Ok y) true
  taken y answer at0 at7 =
      let busy : (written c a v).utxifg ≡ false = simp (at0, at7, free) in
      let more = on (written c a v) (ends_loaded e ch) (simp (at0, at7, is)) (record {
        wide = ap width (load_format s ch small empty_now one) ∙ ok.wide ∙ ap (λ (m : Mode). width (format_of m)) (sym (same_mode at0));
        one = load_capacity s ch small empty_now one ∙ one;
        room = busy ∙ sym (waits_then s ch small empty_now one);
        few = load_few s ch small empty_now one;
      }) in
      (more.0, (load_taken s ch small empty_now one, more.1))
    where
      s : SenderState
      s = e.sender

      one : e.sender.capacity ≡ 1
      one = ok.one

      free : c.utxifg ≡ true
      free = by c.utxifg refl
        where
          by : (b : Bool) → c.utxifg ≡ b → c.utxifg ≡ true
          by true u = u
          by false u = absurd (apart _ _ Full refl answer (not_full c e is a v (eqb-true a 0x77 at7) u))

      empty_now : empty e.sender.waiting ≡ true
      empty_now = sym ok.room ∙ free

      small : ch < 2 ^ width e.sender.format
      small = subst (λ (n : ℕ). ch < 2 ^ n) (sym ok.wide) (narrow c.mode c.transmit.txwake v)

  go : (x : Result Unit Refusal) → write_answer c a v ≡ x → (b0 : Bool) → (a == 0x70) ≡ b0 → (b7 : Bool) → (a == 0x77) ≡ b7 → Goal x b7
  go (Err r) answer b0 at0 true at7 = on c e is ok
  go (Err r) answer b0 at0 false at7 = on c e is ok
  go (Ok y) answer true at0 b7 at7 = absurd (apart _ _ Closed refl answer (not_open c e is a v (eqb-true a 0x70 at0) (sym (ap (λ (b : Bool). b && has v 0x01) at0) ∙ off)))
  go (Ok y) answer false at0 true at7 = taken y answer at0 at7
  go (Ok y) answer false at0 false at7 = on (written c a v) e (simp (at0, at7, is)) (record {
    wide = ok.wide ∙ ap (λ (m : Mode). width (format_of m)) (sym (same_mode at0));
    one = ok.one;
    room = simp (at0, at7) (and-true c.utxifg) ∙ ok.room;
    few = ok.few;
  })

  pub write_speaks : Bare e.sender c (writes a v ∷ xs)
  write_speaks = go (write_answer c a v) refl (a == 0x70) refl (a == 0x77) refl

pub speaks : (xs : List Act) → NoReset xs → (c : ChipState) (e : EndsState) → c.ends ≡ Some e → Sound c.mode c.utxifg e.sender → Bare e.sender c xs
speaks [] nr c e is ok = (refl, tt)
speaks (writes a v ∷ xs) nr c e is ok = write_speaks c e is ok a v nr.0 xs (λ d f same fine. speaks xs nr.1 d f same fine)
speaks (reads a ∷ xs) nr c e is ok = speaks xs nr _ e is ok
speaks (clocks l ∷ xs) nr c e is ok =
    let s : SenderState = e.sender in
    let d : ChipState = clocked c (Some e) l in
    let more = speaks xs nr d (ends_clocked e c.mode.listen l) refl (clock_sound c.mode c.utxifg s ok) in
    subst (λ (y : ChipState). (utxd c ∷ on_utxd y xs ≡ sent s ∷ said (after_send s) (steps y xs)) × AllTaken (after_send s) (steps y xs))
    (sym (ap (λ (o : Option EndsState). clocked c o l) is)) (ap₂ {C = List Level} (λ y ys. y ∷ ys) (ap on_line is) more.0, more.1)

-- so does a chip, in reset or not
pub speaking : (k : Chip) → Speaks (chip_of k)
speaking k = go k.ends k.wide
  where
    go : (o : Option Ends) → ForSome o (λ e. width (meant e.sender).format ≡ width (format_of k.mode)) → Speaks (holding k.mode k.transmit k.receive k.rate (option_map ends_of o))
    go None wide f is acts nr = cc
    go (Some e) wide f is acts nr =
        let same : ends_of e ≡ f = cc in
        speaks acts nr (holding k.mode k.transmit k.receive k.rate (Some (ends_of e))) f is (subst (λ (g : EndsState). Sound k.mode (empty (meant e.sender).waiting) g.sender) same
        (record { wide = wide e refl; one = refl; room = refl; few = one_waits e.sender.waiting }))
