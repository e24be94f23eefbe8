-- What a drawing holds, and when a call to draw declines, by an end's plain numbers.
use Rattle.std.specs.Prelude.{ℕ, List, [], Ok, Err, Result}
use Rattle.line.specs.declared.refusal.Refusal.{Refusal}
use Rattle.ends.specs.Times.{Times}
use Rattle.picture.specs.Drawing.{drawn_at, draw_at}
use Rattle.capi.specs.declared.numbers.EndNumbers.{EndNumbers}
use Rattle.capi.specs.Settings.{and_then, end_times}

abbrev pub drawn_if : Result Times Refusal → List ℕ → List ℕ
drawn_if (Ok t) cs = drawn_at t cs
drawn_if (Err e) cs = []

abbrev pub drawing : EndNumbers → List ℕ → List ℕ
drawing e cs = drawn_if (end_times e) cs

-- the number of bytes drawn, or why nothing is: room is the length of the buffer
abbrev pub draw_result : EndNumbers → List ℕ → ℕ → Result ℕ Refusal
draw_result e cs room = and_then (end_times e) (draw_at cs room)
