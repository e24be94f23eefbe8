-- The part has the bits so far.
use Rattle.picture.specs.Drawing.{drawn_frame}
use Rattle.picture.proofs.Rest.{Partly}
use Rattle.picture.proofs.Clocks.{from_bit}
use Rattle.picture.proofs.drawing.draw_frame.Given as goal

abbrev pub invariant-loop-length : goal.invariant-loop-length
invariant-loop-length l = Partly l.initial.part (drawn_frame l.timing l.character) (from_bit l.timing l.length-index l.digits) l.part l.at
