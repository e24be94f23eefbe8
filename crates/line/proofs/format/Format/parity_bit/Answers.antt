-- The digit that is answered is the one that the number of marks asks for.
use Rattle.std.proofs.Common.{◌≡◌, ℕ, zero, suc, ◌+◌, ◌%◌, ◌<◌, ◌==◌, sym, refl, ap, ◌∙◌, le_of_suc-le-suc, not-suc-le-zero, arith}
use Rattle.std.specs.Int.{from_bool}
use Rattle.line.specs.Frames.{width, parity_bits}
use Rattle.line.specs.Levels.{low_bits, marks, number}
use Rattle.line.proofs.Digits.{digit_number, marks_of}
use Rattle.line.proofs.format.Format.parity_bit.Goals as goal

-- whether a digit is 0, as a digit
if_zero : (d e : ℕ) → d + e ≡ 1 → from_bool (d == 0) ≡ e
if_zero zero e h = omega (arith, h)
if_zero (suc zero) e h = omega (arith, h)
if_zero (suc (suc d)) e h = absurd (omega (arith, h))

-- whether it is 1
if_one : (d : ℕ) → d < 2 → from_bool (d == 1) ≡ d
if_one zero h = refl
if_one (suc zero) h = refl
if_one (suc (suc d)) h = absurd (not-suc-le-zero (le_of_suc-le-suc (le_of_suc-le-suc h)))

pub returns-in-Odd : goal.returns-in-Odd
returns-in-Odd c =
    let f = c.args.self in
    let bs = low_bits (width f) c.args.character in
    let e = marks_of (width f) c.args.character c.characters.result c.characters.ensures.value in
    let digit : c.from.result ≡ (1 + marks bs) % 2 = c.from.ensures ∙ if_zero _ ((1 + marks bs) % 2) (omega (arith, e)) in
    record { value = digit ∙ digit_number ((1 + marks bs) % 2) (omega arith) ∙ ap (λ p. number (parity_bits p bs)) (sym c.in-Odd.is); bound = omega (arith, digit) }

pub returns-in-Even : goal.returns-in-Even
returns-in-Even c =
    let f = c.args.self in
    let bs = low_bits (width f) c.args.character in
    let e = marks_of (width f) c.args.character c.characters.result c.characters.ensures.value in
    let digit : c.from-in-Even.result ≡ marks bs % 2 = c.from-in-Even.ensures ∙ if_one _ (omega arith) ∙ ap (λ (n : ℕ). n % 2) e in
    record { value = digit ∙ digit_number (marks bs % 2) (omega arith) ∙ ap (λ p. number (parity_bits p bs)) (sym c.in-Even.is); bound = omega (arith, digit) }
