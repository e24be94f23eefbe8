-- What a drawing holds, and when a call to draw declines.
use Rattle.std.specs.Prelude.{◌≡◌, ℕ, ◌^◌, Bool, if◌then◌else◌, ◌||◌, List, [], map, length, Ok, Err, Result, nat_le, nat_lt, slice_index_or}
use Rattle.std.specs.List.{list_any}
use Rattle.line.specs.declared.level.Level.{Level}
use Rattle.line.specs.declared.format.Format.{Format}
use Rattle.line.specs.declared.refusal.Refusal.{Refusal}
use Rattle.line.specs.declared.refusal.Refusal.TheVariants.{TooWide, TooShort}
use Rattle.line.specs.Levels.{byte_of}
use Rattle.line.specs.Frames.{width, frame_bits}
use Rattle.ends.specs.declared.timing.Timing.{Timing}
use Rattle.ends.specs.Times.{Times, start_of}
use Rattle.ends.specs.Timed.{times_of}
use Rattle.ends.specs.Sender.{SenderState, frame_levels, frames, sent}
use Rattle.ends.specs.BareSender.{resting, at_rest}
use Rattle.ends.specs.Runs.{after_sends}

-- a byte for each level
abbrev pub bytes : List Level → List ℕ
bytes ls = map byte_of ls

-- how many clocks a frame lasts
abbrev pub frame_clocks : Timing → ℕ
frame_clocks t = start_of t.lengths (frame_bits t.format)

-- the picture of a character's frame
abbrev pub drawn_frame : Timing → ℕ → List ℕ
drawn_frame t c = bytes (frame_levels (at_rest t) c)

-- the picture of some characters: their frames as a bare sender sends them, one after the other
abbrev pub drawn_at : Times → List ℕ → List ℕ
drawn_at t cs = bytes (frames (resting t) cs)

abbrev pub drawn : Timing → List ℕ → List ℕ
drawn t cs = drawn_at (times_of t) cs

-- some number is not below the limit
abbrev pub any_from : ℕ → List ℕ → Bool
any_from limit cs = list_any (nat_le limit) cs

-- some character has more bits than the format
abbrev pub any_wide : Format → List ℕ → Bool
any_wide f cs = any_from (2 ^ width f) cs

-- the number of bytes drawn, or why nothing is: room is the length of the buffer
abbrev pub draw_at : List ℕ → ℕ → Times → Result ℕ Refusal
draw_at cs room t =
    let size = length (drawn_at t cs) in
    if any_wide t.format cs then Err TooWide else (if nat_lt 4096 (length cs) || nat_lt room size then Err TooShort else Ok size)

abbrev pub draw_answer : Timing → List ℕ → ℕ → Result ℕ Refusal
draw_answer t cs room = draw_at cs room (times_of t)

-- a sender with these times that has nothing on the line and these characters to send
abbrev pub loaded : Times → List ℕ → SenderState
loaded t cs = record { format = t.format; lengths = t.lengths; capacity = length cs; left = []; waiting = cs }

-- Clock k of such a sender answers the level of byte k, and mark past the picture's end.
abbrev pub AsSentAt : Times → List ℕ → Type 0
AsSentAt t cs = (k : ℕ) → byte_of (sent (after_sends (loaded t cs) k)) ≡ slice_index_or (drawn_at t cs) k 1

abbrev pub AsSent : Timing → List ℕ → Type 0
AsSent t cs = AsSentAt (times_of t) cs
