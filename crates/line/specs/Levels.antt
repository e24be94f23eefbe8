-- Levels, the bytes of a picture, and lists of levels as binary numbers.
use Rattle.std.specs.Prelude.{ℕ, zero, suc, ◌+◌, ◌*◌, ◌/◌, ◌%◌, if◌then◌else◌, List, [], ◌∷◌, Ok, Err, Result, ◌==◌}
use Rattle.line.specs.declared.level.Level.{Level}
use Rattle.line.specs.declared.level.Level.TheVariants.{Space, Mark}
use Rattle.line.specs.declared.refusal.Refusal.{Refusal}
use Rattle.line.specs.declared.refusal.Refusal.TheVariants.{NotALevel}

-- the byte that stands for a level in a picture
abbrev pub byte_of : Level → ℕ
byte_of Space = 0
byte_of Mark = 1

-- the level that a byte of a picture stands for
abbrev pub level_of_byte : ℕ → Result Level Refusal
level_of_byte b = if b == 0 then Ok Space else (if b == 1 then Ok Mark else Err NotALevel)

-- the level of a binary digit
abbrev pub level_of : ℕ → Level
level_of n = if n == 0 then Space else Mark

-- the n lowest binary digits of a number, the least significant first
abbrev pub low_bits : ℕ → ℕ → List Level
low_bits zero c = []
low_bits (suc n) c = level_of (c % 2) ∷ low_bits n (c / 2)

-- the number that has these binary digits, the least significant first
abbrev pub number : List Level → ℕ
number [] = 0
number (Space ∷ bs) = 2 * number bs
number (Mark ∷ bs) = 1 + 2 * number bs

-- how many marks there are
abbrev pub marks : List Level → ℕ
marks [] = 0
marks (Space ∷ bs) = marks bs
marks (Mark ∷ bs) = 1 + marks bs
