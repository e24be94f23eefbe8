-- The tables of a `Timing`: what it asks of them, and a table that is filled from a function of the index.
use Rattle.std.proofs.Common.{◌≡◌, ℕ, zero, suc, ◌+◌, ◌*◌, ◌<◌, ◌≤◌, List, length, get_or, map, sym, ap, ◌∙◌, subst, ⊎_elim, arith}
use Rattle.std.proofs.lemmas.Bool.{cases_lt}
use Rattle.std.proofs.lemmas.List.FromFn.{fill_by_all}
use Rattle.std.specs.Array.{IsFromFnResult, IsFromFnResultFrom}
use Rattle.std.specs.Fn.{Called}
use Rattle.std.specs.List.{range_with_len}
use denote.Param.Members.{Mut}

-- what a `Timing` asks of its lengths and its sample clocks
pub record Tables (ns clocks : List ℕ) : Type 0 where
  pub thirteen : length ns ≡ 13
  pub lasting : (k : ℕ) → k < 13 → 0 < get_or ns k 0
  pub short : (k : ℕ) → get_or ns k 0 ≤ 65536
  pub all_samples : length clocks ≡ 36
  pub rising : (i : ℕ) → i + 1 < 36 → get_or clocks i 0 ≤ get_or clocks (i + 1) 0
  pub apart : (k : ℕ) → k < 11 → get_or clocks (3 * k + 2) 0 < get_or clocks (3 * k + 3) 0
  pub early : (i : ℕ) → get_or clocks i 0 < 1048576

module _ {F B : Type 0} (g : Mut F (ℕ × Unit {0}) B) (f : F) (h : ℕ → B) (top : ℕ) (each : (i : ℕ) (y : B) (q : F) → i < top → Called g f (i, tt) y q → (q ≡ f) × (y ≡ h i)) where
  filled_from : (ys : List B) (i n : ℕ) → i + n ≤ top → IsFromFnResultFrom g f ys i n → (k : ℕ) (d : B) → i ≤ k → k < i + n → get_or ys k d ≡ h k
  filled_from ys i zero fits made k d low high = absurd (omega arith)
  filled_from ys i (suc n) fits (q, y, at, called, rest) k d low high =
      let e = each i y q (omega arith) called in
      ⊎_elim
      (λ (later : i < k). filled_from ys (i + 1) n (omega arith) (subst (λ p. IsFromFnResultFrom g p ys (i + 1) n) e.0 rest) k d (omega arith) (omega arith))
      (λ (here : k ≤ i). let same : k ≡ i = omega arith in ap (λ j. get_or ys j d) same ∙ at.1 d ∙ e.1 ∙ sym (ap h same))
      (cases_lt i k)

  -- a closure that keeps what it captures and gives h of the index fills the table with h
  pub filled : (ys : List B) (d : B) → IsFromFnResult g f ys top → ys ≡ map h (range_with_len 0 top)
  filled ys d made = fill_by_all h ys top d made.long (λ k l. filled_from ys 0 top (omega arith) made.each k d (omega arith) (omega arith))
