-- The samples that a bare receiver holds.
use Rattle.std.specs.Prelude.{ℕ, ◌+◌, List, take}
use Rattle.line.specs.declared.level.Level.{Level}
use Rattle.line.specs.declared.format.Format.{Format}
use Rattle.ends.specs.declared.samples.Samples.{Samples}
use Rattle.ends.specs.declared.doing.Doing.{Doing}
use Rattle.ends.specs.declared.doing.Doing.TheVariants.{Idle, Framing, Counting}
use Rattle.ends.specs.Receiver.{Heard, heard_in_frame, nothing, idle, framing, falling_before}

abbrev pub taken : Samples → List Level
taken s = take s.count s.levels

-- how many samples have been taken of a frame; outside a frame, none
abbrev pub taken_by : Doing → ℕ
taken_by Idle = 0
taken_by (Framing clock samples) = samples.count
taken_by (Counting spaces) = 0

-- how many should have been
abbrev pub due_by : List ℕ → Doing → ℕ
due_by clocks Idle = 0
due_by clocks (Framing clock samples) = falling_before (clock + 1) clocks
due_by clocks (Counting spaces) = 0

-- how many spaces have been counted
abbrev pub spaces_by : Doing → ℕ
spaces_by Idle = 0
spaces_by (Framing clock samples) = 0
spaces_by (Counting spaces) = spaces

-- what a clock of the frame comes to that takes no sample; outside a frame, nothing
abbrev pub unsampled_by : Format → Doing → Heard
unsampled_by f Idle = nothing idle
unsampled_by f (Framing clock samples) = heard_in_frame f clock (taken samples)
unsampled_by f (Counting spaces) = nothing idle

-- what it should come to: the frame is neither over nor dropped
abbrev pub going_by : Doing → Heard
going_by Idle = nothing idle
going_by (Framing clock samples) = nothing (framing clock (taken samples))
going_by (Counting spaces) = nothing idle
