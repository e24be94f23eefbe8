-- The power of two that is within the length is the one that the distance is made of.
use Rattle.std.proofs.Common.{arith}
use Rattle.std.proofs.lemmas.Grind.{common_steps}
use Rattle.usart.specs.Usart.{Spaced}
use Rattle.usart.proofs.Distance.{distance_is}
use Rattle.usart.proofs.usart.sample_distance.Goals as goal

pub returns-clause-value : goal.returns-clause-value
returns-clause-value c = let s : Spaced c.args.length c.max.result = grind (arith, common_steps) in distance_is c.args.length c.max.result c.requires s
