-- What the receiver comes to by the levels ahead is what it came to by all of them.
use Rattle.std.proofs.Common.{◌≡◌, drop}
use Rattle.ends.specs.Runs.{after_levels}
use Rattle.ends.proofs.runs.hear.Given as goal

abbrev pub invariant-loop-level : goal.invariant-loop-level
invariant-loop-level g l =
    after_levels (g.R.Receiver.meaning l.receiver) (drop l.level-index l.levels) ≡ after_levels (g.R.Receiver.meaning l.initial.receiver) l.levels
