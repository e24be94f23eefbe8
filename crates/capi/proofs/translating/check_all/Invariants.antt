-- The acts so far are not declined.
use Rattle.std.proofs.Common.{◌≡◌, drop}
use Rattle.capi.specs.Translating.{acts_check}
use Rattle.capi.proofs.translating.check_all.Given as goal

abbrev pub invariant-loop-act : goal.invariant-loop-act
invariant-loop-act l = acts_check (drop l.act-index l.acts) ≡ acts_check l.acts
