-- The digits of a frame are the number that its bits make.
use Rattle.std.proofs.Common.{ℕ, ◌+◌, ◌*◌, ◌%◌, ◌^◌, ◌≤◌, sym, ap, ◌∙◌, ap₂, arith}
use Rattle.std.proofs.lemmas.Nat.{mul-le, mod_below, pow_pos}
use Rattle.line.specs.Frames.{width, parity_bits, parity_count}
use Rattle.line.specs.Levels.{low_bits, number}
use Rattle.line.proofs.Bits.{frame_number}
use Rattle.line.proofs.format.Format.frame.Goals as goal

pub returns : goal.returns
returns c =
    let f = c.args.self in
    let n : ℕ = c.characters-characters.result in
    let stops : c.parity_values.result * c.stop_digits.result ≤ 2 * 3 =
    mul-le c.parity_values.result c.stop_digits.result 2 3 c.parity_values.ensures.bound c.stop_digits.ensures.bound in
    let above : ℕ = c.parity_bit.result + c.parity_values.result * c.stop_digits.result in
    let most : n * above ≤ 512 * 7 = mul-le n above 512 7 c.characters-characters.ensures.bound (omega arith) in
    record {
      value =
          ap₂ (λ (n m : ℕ). 2 * (c.args.character % n + n * m)) c.characters-characters.ensures.value
          (ap₂ (λ (p d : ℕ). p + d * c.stop_digits.result) c.parity_bit.ensures.value c.parity_values.ensures.value
          ∙ ap (λ (s : ℕ). number (parity_bits f.parity (low_bits (width f) c.args.character)) + 2 ^ parity_count f.parity * s) c.stop_digits.ensures.value)
          ∙ sym (frame_number f c.args.character);
      bound = omega (arith, mod_below c.args.character n (omega (arith, pow_pos (width f), c.characters-characters.ensures.value)));
    }
