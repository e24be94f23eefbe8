-- The levels that a shift register has left.
use Rattle.std.specs.Prelude.{ℕ, ◌+◌, ◌-◌, ◌/◌, ◌%◌, List, [], ◌++◌, drop, replicate, Some, None, Option}
use Rattle.line.specs.declared.level.Level.{Level}
use Rattle.line.specs.declared.format.Format.{Format}
use Rattle.line.specs.Levels.{level_of, low_bits}
use Rattle.line.specs.Frames.{frame_bits}
use Rattle.ends.specs.declared.shift.Shift.{Shift}
use Rattle.ends.specs.Times.{held}

-- the rest of the bit on the line, and the bits above it
abbrev pub shift_levels : Format → List ℕ → Shift → List Level
shift_levels f lengths s =
    replicate s.clocks (level_of (s.digits % 2))
    ++ held (drop (s.bit + 1) lengths) (low_bits (frame_bits f - (s.bit + 1)) (s.digits / 2))

abbrev pub left_of : Format → List ℕ → Option Shift → List Level
left_of f lengths None = []
left_of f lengths (Some s) = shift_levels f lengths s

-- the number of the bit on the line, or 0
abbrev pub bit_of : Option Shift → ℕ
bit_of None = 0
bit_of (Some s) = s.bit

-- how many clocks are left of it, or 1
abbrev pub clocks_of : Option Shift → ℕ
clocks_of None = 1
clocks_of (Some s) = s.clocks

abbrev pub character_of : Option ℕ → ℕ
character_of None = 0
character_of (Some c) = c
