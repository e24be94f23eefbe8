-- The bits of a frame. They count from 0: the start bit, the data bits with the least significant first, the address bit, the parity bit, the stop bits.
use Rattle.std.specs.Prelude.{ℕ, ◌+◌, ◌%◌, if◌then◌else◌, List, [], ◌∷◌, ◌++◌, replicate}
use Rattle.line.specs.Levels.{level_of, low_bits, marks}
use Rattle.line.specs.declared.level.Level.{Level}
use Rattle.line.specs.declared.level.Level.TheVariants.{Space, Mark}
use Rattle.line.specs.declared.format.DataBits.{DataBits}
use Rattle.line.specs.declared.format.DataBits.TheVariants.{Seven, Eight}
use Rattle.line.specs.declared.format.Parity.{Parity}
use Rattle.line.specs.declared.format.Parity.TheVariants.{Absent, Odd, Even}
use Rattle.line.specs.declared.format.StopBits.{StopBits}
use Rattle.line.specs.declared.format.StopBits.TheVariants.{One, Two}
use Rattle.line.specs.declared.format.Format.{Format}

abbrev pub data_count : DataBits → ℕ
data_count Seven = 7
data_count Eight = 8

-- how many bits a character has: its data bits, and the address bit above them
abbrev pub width : Format → ℕ
width f = data_count f.size + (if f.address then 1 else 0)

abbrev pub parity_count : Parity → ℕ
parity_count Absent = 0
parity_count Odd = 1
parity_count Even = 1

abbrev pub stop_count : StopBits → ℕ
stop_count One = 1
stop_count Two = 2

-- the number of the first stop bit
abbrev pub first_stop : Format → ℕ
first_stop f = 1 + width f + parity_count f.parity

-- how many bits a frame has
abbrev pub frame_bits : Format → ℕ
frame_bits f = first_stop f + stop_count f.stops

-- the parity bit over the data bits and the address bit, where the format has one: with it the number of marks is odd or even
abbrev pub parity_bits : Parity → List Level → List Level
parity_bits Absent bs = []
parity_bits Odd bs = level_of ((1 + marks bs) % 2) ∷ []
parity_bits Even bs = level_of (marks bs % 2) ∷ []

-- the levels of the bits of a character's frame
abbrev pub frame : Format → ℕ → List Level
frame f c =
    let bs : List Level = low_bits (width f) c in
    Space ∷ (bs ++ (parity_bits f.parity bs ++ replicate (stop_count f.stops) Mark))
