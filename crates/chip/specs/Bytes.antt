-- Single bits of a register's byte.
use Rattle.std.specs.Prelude.{ℕ, Bool, List, [], ◌∷◌, not, if◌then◌else◌, ◌==◌, bit_and, bit_or}

-- whether the bit that the mask has is set in the byte
abbrev pub has : ℕ → ℕ → Bool
has byte mask = not (bit_and byte mask == 0)

-- the bits of a byte, from bit 7 to bit 0
abbrev pub bits : ℕ → List Bool
bits byte = has byte 0x80 ∷ has byte 0x40 ∷ has byte 0x20 ∷ has byte 0x10 ∷ has byte 0x08 ∷ has byte 0x04 ∷ has byte 0x02 ∷ has byte 0x01 ∷ []

-- the byte that has this bit where it is set, and no other
abbrev pub bit : Bool → ℕ → ℕ
bit set mask = if set then mask else 0

-- the byte that has these bits, from bit 7 to bit 0
abbrev pub byte : Bool → Bool → Bool → Bool → Bool → Bool → Bool → Bool → ℕ
byte b7 b6 b5 b4 b3 b2 b1 b0 =
    bit_or (bit_or (bit_or (bit_or (bit_or (bit_or (bit_or
    (bit b7 0x80) (bit b6 0x40)) (bit b5 0x20)) (bit b4 0x10)) (bit b3 0x08)) (bit b2 0x04)) (bit b1 0x02)) (bit b0 0x01)
