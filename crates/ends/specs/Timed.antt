-- The times that a `Timing` holds.
use Rattle.std.specs.Prelude.{ℕ, List, take, Ok, Err, Result}
use Rattle.line.specs.declared.refusal.Refusal.{Refusal}
use Rattle.ends.specs.declared.timing.Timing.{Timing}
use Rattle.ends.specs.Times.{Times, samples_per_frame}

-- the sample clocks that the format uses
abbrev pub sample_clocks : Timing → List ℕ
sample_clocks t = take (samples_per_frame t.format) t.samples

abbrev pub times_of : Timing → Times
times_of t = record { format = t.format; lengths = t.lengths; samples = sample_clocks t; break_length = t.break_length }

abbrev pub answered : Result Timing Refusal → Result Times Refusal
answered (Ok t) = Ok (times_of t)
answered (Err e) = Err e
