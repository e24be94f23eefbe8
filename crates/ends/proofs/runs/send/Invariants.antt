-- The places behind have the levels that were spoken, those ahead what they had.
use Rattle.std.proofs.Common.{◌≡◌, ◌++◌, drop}
use Rattle.ends.specs.Runs.{after_sends, spoken}
use Rattle.ends.proofs.runs.send.Given as goal

abbrev pub invariant-loop-level : goal.invariant-loop-level
invariant-loop-level g l =
    (g.S.Sender.meaning l.sender ≡ after_sends (g.S.Sender.meaning l.initial.sender) l.level-index)
    × (l.levels ≡ spoken (g.S.Sender.meaning l.initial.sender) l.level-index ++ drop l.level-index l.initial.levels)
