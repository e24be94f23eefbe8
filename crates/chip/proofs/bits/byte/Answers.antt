-- Eight bits joined are a byte.
use Rattle.std.proofs.Common.{◌∙◌, arith}
use Rattle.chip.proofs.EachBit.{joined_byte}
use Rattle.chip.proofs.bits.byte.Goals as goal

pub returns : goal.returns
returns c = c.joined.ensures ∙ joined_byte c.args.bits (omega arith)
