-- The picture has the frames so far.
use Rattle.std.proofs.Common.{◌*◌, drop}
use Rattle.picture.specs.Drawing.{drawn}
use Rattle.picture.proofs.Rest.{Partly}
use Rattle.picture.proofs.drawing.draw.Given as goal

abbrev pub invariant-loop-i : goal.invariant-loop-i
invariant-loop-i l = Partly l.initial.picture (drawn l.timing l.characters) (drawn l.timing (drop l.i l.characters)) l.picture (l.i * l.clocks)
