-- The acts so far have been done and answered.
use Rattle.std.proofs.Common.{◌≡◌, ◌++◌, take, drop}
use Rattle.link.specs.Link.{after}
use Rattle.link.specs.Acts.{link_of, all_answers}
use Rattle.link.proofs.joined.Link.run.Given as goal

abbrev pub invariant-loop-i : goal.invariant-loop-i
invariant-loop-i g l =
    let start = link_of g.S.Sender.meaning g.R.Receiver.meaning l.initial.self in
    (link_of g.S.Sender.meaning g.R.Receiver.meaning l.self ≡ after start (take l.i l.acts))
    × (l.answers ≡ all_answers start (take l.i l.acts) ++ drop l.i l.initial.answers)
