-- A clock does to the registers what it does to the ends.
use Rattle.std.proofs.Common.{ap, ◌∙◌}
use Rattle.chip.specs.Receiving.{all_taken}
use Rattle.chip.proofs.Speaks.{speaking}
use Rattle.chip.proofs.Receives.{receives}
use Rattle.chip.proofs.Clocks.{still_wide, clocked_chip}
use Rattle.chip.proofs.chip.Chip.clock.Goals as goal

pub invariant_of-self-2-clause-wide : goal.invariant_of-self-2-clause-wide
invariant_of-self-2-clause-wide c =
    let k = c.args.self.now in
    still_wide k.mode k.transmit k.receive k.rate c.args.level k.ends c.in-Some.ends c.clock-utxd.new.self c.in-Some.is c.clock-utxd.ensures.state k.wide

pub returns-clause-state : goal.returns-clause-state
returns-clause-state c =
    let k = c.args.self.now in
    clocked_chip k.mode k.transmit k.receive k.rate c.args.level k.ends c.in-Some.ends c.clock-utxd.new.self c.take.new.self c.in-Some.is c.clock-utxd.ensures.state
    (c.take.ensures ∙ ap (all_taken k.mode k.receive) c.clock-utxd.ensures.arrived)

pub returns-clause-speaks : goal.returns-clause-speaks
returns-clause-speaks c = speaking c.args.self.now

pub returns-clause-listens : goal.returns-clause-listens
returns-clause-listens c = receives _
