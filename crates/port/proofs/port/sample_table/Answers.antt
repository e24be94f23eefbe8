-- Each sample is the one that belongs there.
use Rattle.std.proofs.Common.{rules}
use Rattle.ends.proofs.Tables.{filled}
use Rattle.port.specs.Port.{sample_at, samples}
use Rattle.port.proofs.port.sample_table.Goals as goal

pub returns : goal.returns
unfolding samples
returns c = filled _ _ (sample_at c.args.divider) 36 (λ i y q l k. search rules) c.from_fn.result 0 c.from_fn.ensures.items
