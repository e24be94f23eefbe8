-- What the lines tell follows from the flags, and in reset they rest.
use Rattle.std.proofs.Common.{option_map}
use Rattle.chip.specs.Pairs.{ends_of}
use Rattle.chip.proofs.Tells.{tells}
use Rattle.chip.proofs.Rests.{rests}
use Rattle.chip.proofs.chip.Chip.interrupts.Goals as goal

pub returns-clause-tells : goal.returns-clause-tells
returns-clause-tells c =
    let k = c.args.self.now in
    tells k.mode k.transmit k.receive k.rate (option_map ends_of k.ends)

pub returns-clause-rests : goal.returns-clause-rests
returns-clause-rests c = rests c.args.self.now
