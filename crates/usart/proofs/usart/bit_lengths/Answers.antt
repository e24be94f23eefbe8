-- Each length is the one that belongs there.
use Rattle.std.proofs.Common.{rules}
use Rattle.ends.proofs.Tables.{filled}
use Rattle.usart.specs.Usart.{bit_length, lengths}
use Rattle.usart.proofs.usart.bit_lengths.Goals as goal

pub returns : goal.returns
unfolding lengths
returns c =
    let s = c.args.settings.now in
    filled _ _ (bit_length s.divider s.modulator) 13 (λ i y q l k. search rules) c.from_fn.result 0 c.from_fn.ensures.items
