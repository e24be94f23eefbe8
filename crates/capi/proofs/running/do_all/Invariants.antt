-- The acts so far have been done and answered.
use Rattle.std.proofs.Common.{◌≡◌, ◌++◌, take, drop}
use Rattle.link.specs.Acts.{link_of}
use Rattle.capi.specs.Running.{told_answers}
use Rattle.capi.proofs.Acts.{done}
use Rattle.capi.proofs.running.do_all.Given as goal

abbrev pub invariant-loop-i : goal.invariant-loop-i
invariant-loop-i g l =
    let start = link_of g.S.Sender.meaning g.R.Receiver.meaning l.initial.link in
    (link_of g.S.Sender.meaning g.R.Receiver.meaning l.link ≡ done start (take l.i l.acts))
    × (l.answers ≡ told_answers start (take l.i l.acts) ++ drop l.i l.initial.answers)
