-- Character, parity and stop bit by their places among the digits.
use Rattle.std.proofs.Common.{◌≡◌, ℕ, ◌+◌, ◌/◌, ◌%◌, ◌^◌, List, sym, ap, ◌∙◌, ap₂, if◌then◌else◌, ◌==◌}
use Rattle.line.specs.declared.level.Level.{Level}
use Rattle.line.specs.Levels.{low_bits, number}
use Rattle.line.specs.Frames.{width, parity_count, parity_bits}
use Rattle.line.proofs.Digits.{low_mod}
use Rattle.ends.specs.Receiver.{Entry}
use Rattle.ends.proofs.Entries.{entry_digits}
use Rattle.ends.proofs.receiving.entry.Goals as goal

pub returns : goal.returns
returns c =
    let f = c.args.format in
    let d : ℕ = c.args.digits in
    let w : ℕ = width f in
    let pb : ℕ = c.parity_bit.result in
    let bit : pb ≡ number (parity_bits f.parity (low_bits w (d / 2))) =
    c.parity_bit.ensures.value
    ∙ ap (λ (m : ℕ). number (parity_bits f.parity (low_bits w (d / 2 % m)))) c.characters-characters.ensures.value
    ∙ ap (λ (l : List Level). number (parity_bits f.parity l)) (low_mod w (d / 2)) in
    ap₂ {C = Entry} (λ x y. (d / 2 % c.characters-characters.result, x + y)) c.unless-parity.ensures c.unless-framing.ensures
    ∙ ap₂ {C = Entry} (λ m k. (d / 2 % m, (if d / 2 / m % k == pb then 0 else 2) + (if d / 2 / m / k % 2 == 1 then 0 else 4))) c.characters-characters.ensures.value c.parity_values-parities.ensures.value
    ∙ ap {B = Entry} (λ q. (d / 2 % 2 ^ w, (if d / 2 / 2 ^ w % 2 ^ parity_count f.parity == q then 0 else 2) + (if d / 2 / 2 ^ w / 2 ^ parity_count f.parity % 2 == 1 then 0 else 4))) bit
    ∙ sym (entry_digits f d)
