-- Fit goes from bit to bit, and passes exactly where no bit is early or late.
use Rattle.std.proofs.Common.{◌≡◌, ℕ, zero, suc, ◌+◌, ◌*◌, ◌<◌, ◌≤◌, slice_index, Ok, Err, refl, subst, ap₂, ⊎_elim, arith}
use Rattle.std.proofs.lemmas.Bool.{cases_lt}
use Rattle.std.proofs.lemmas.Bool.Decides.{nat_tests}
use Rattle.line.specs.Frames.{first_stop}
use Rattle.ends.specs.Times.{start_of}
use Rattle.ends.specs.Sender.{SenderState}
use Rattle.ends.specs.Receiver.{ReceiverState, first_sample, third_sample}
use Rattle.ends.proofs.Held.{start_more}
use Rattle.link.specs.declared.rates.Verdict.{Verdict}
use Rattle.link.specs.declared.rates.Verdict.TheVariants.{Passes, Late as IsLate}
use Rattle.link.specs.Fit.{Early, Late, Fits}
use Rattle.link.specs.Judging.{bit_judged, judged}

module _ (s : SenderState) (r : ReceiverState) (a b : ℕ) where
  passed_on : (k n : ℕ) → judged s r a b k (suc n) ≡ Passes
      → (start_of s.lengths k * b ≤ first_sample r k * a) × ((third_sample r k + 1) * a ≤ start_of s.lengths (k + 1) * b) × (judged s r a b (k + 1) n ≡ Passes)
  passed_on k n e = grind (arith, nat_tests)

  good_from : (n k : ℕ) → judged s r a b k n ≡ Passes → (j : ℕ) → k ≤ j → j < k + n → (Early s r a b j → ⊥) × (Late s r a b j → ⊥)
  good_from zero k e j low high = absurd (omega arith)
  good_from (suc n) k e j low high =
      let on = passed_on k n e in
      ⊎_elim (λ (more : k < j). good_from n (k + 1) on.2 j (omega arith) (omega arith))
      (λ (here : j ≤ k).
      let at : k ≡ j = omega arith in
      subst (λ (i : ℕ). (Early s r a b i → ⊥) × (Late s r a b i → ⊥)) at ((λ w. omega (arith, w, on.0)), (λ w. omega (arith, w, on.1))))
      (cases_lt k j)

  pub passes_fits : judged s r a b 0 (1 + first_stop r.format) ≡ Passes → Fits s r a b
  passes_fits e k h = good_from (1 + first_stop r.format) 0 e k (omega arith) (omega arith)

  all_good : (n k : ℕ) → ((j : ℕ) → k ≤ j → j < k + n → (Early s r a b j → ⊥) × (Late s r a b j → ⊥)) → judged s r a b k n ≡ Passes
  all_good zero k f = refl
  all_good (suc n) k f =
      let here = f k (omega arith) (omega arith) in
      let early : Early s r a b k → ⊥ = here.0 in
      let late : Late s r a b k → ⊥ = here.1 in
      let rest = all_good n (k + 1) (λ j low high. f j (omega arith) (omega arith)) in
      grind (arith, nat_tests)

  pub fits_passes : Fits s r a b → judged s r a b 0 (1 + first_stop r.format) ≡ Passes
  fits_passes f = all_good (1 + first_stop r.format) 0 (λ j low high. f j (omega arith))

-- one bit, by the numbers at hand: the rates, where it begins and how long it lasts, and its first and third sample
module _ (s : SenderState) (r : ReceiverState) (a b k : ℕ) {send receive begin length first third : ℕ} (sends : send ≡ a) (receives : receive ≡ b)
    (begins : begin ≡ start_of s.lengths k) (lasts : length ≡ slice_index s.lengths k) (firsts : first ≡ first_sample r k) (thirds : third ≡ third_sample r k) where
  end : begin + length ≡ start_of s.lengths (k + 1)
  end = omega (arith, begins, lasts, start_more s.lengths k)

  at_first : first * send ≡ first_sample r k * a
  at_first = ap₂ (λ (x y : ℕ). x * y) firsts sends

  at_begin : begin * receive ≡ start_of s.lengths k * b
  at_begin = ap₂ (λ (x y : ℕ). x * y) begins receives

  at_third : (third + 1) * send ≡ (third_sample r k + 1) * a
  at_third = ap₂ (λ (x y : ℕ). (x + 1) * y) thirds sends

  at_end : (begin + length) * receive ≡ start_of s.lengths (k + 1) * b
  at_end = ap₂ (λ (x y : ℕ). x * y) end receives

  pub is_late : begin * receive ≤ first * send → (begin + length) * receive < (third + 1) * send → Err (IsLate k) ≡ bit_judged s r a b k
  is_late ne e = let f = at_first in let g = at_begin in let h = at_third in let i = at_end in grind (arith, nat_tests)

  pub is_good : begin * receive ≤ first * send → (third + 1) * send ≤ (begin + length) * receive → Ok (begin + length) ≡ bit_judged s r a b k
  is_good ne nl = let f = at_first in let g = at_begin in let h = at_third in let i = at_end in let j = end in grind (arith, nat_tests)

module _ (s : SenderState) (r : ReceiverState) (a b k n : ℕ) where
  pub goes_on : (end : ℕ) → bit_judged s r a b k ≡ Ok end → (end ≡ start_of s.lengths (k + 1)) × (judged s r a b k (suc n) ≡ judged s r a b (k + 1) n)
  goes_on end is = grind (arith, nat_tests)

  pub stops : (v : Verdict) → bit_judged s r a b k ≡ Err v → judged s r a b k (suc n) ≡ v
  stops v is = grind (arith, nat_tests)
