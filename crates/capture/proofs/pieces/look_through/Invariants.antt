-- So far as many bytes were read as are counted, at least one in each turn.
use Rattle.std.proofs.Common.{◌≤◌}
use Rattle.capture.specs.Captures.{HasRead}
use Rattle.capture.proofs.pieces.look_through.Given as goal

abbrev pub invariant-loop-turn : goal.invariant-loop-turn
invariant-loop-turn g l = HasRead (g.I.Read.remaining l.initial.input) (g.I.Read.remaining l.input) l.before × (l._turn ≤ l.before)
