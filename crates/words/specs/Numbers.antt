-- Numbers as they are written.
use Rattle.std.specs.Prelude.{ℕ, ◌^◌, ◌<◌, List, Option, SomeIff}
use Rattle.std.specs.Str.Parse.{IsNumeral, digits_value, without_leading_plus}

-- the answer is the number that these digits write, where it is below 2 ^ 32, and else none; a plus may stand before them
abbrev pub Written : ℕ → List ℕ → Option ℕ → Type 0
Written radix ds r =
    SomeIff r (IsNumeral radix (without_leading_plus ds) × (digits_value radix (without_leading_plus ds) < 2 ^ 32)) (digits_value radix (without_leading_plus ds))
