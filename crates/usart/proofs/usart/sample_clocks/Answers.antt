-- One more bit is sampled after those before it.
use Rattle.std.proofs.Common.{get_or, ap, ◌∙◌, arith, rules}
use Rattle.std.proofs.lemmas.List.{places}
use Rattle.usart.specs.Usart.{bit_samples}
use Rattle.ends.proofs.Held.{start_more}
use Rattle.usart.proofs.Samples.{samples_more}
use Rattle.usart.proofs.usart.sample_clocks.Goals as goal

pub loop-k-preserved : goal.loop-k-preserved
loop-k-preserved c =
    let ns = c.args.lengths.now in
    let k = c.loop-k.k in
    let n = c.requires.lasting k (omega arith) in (
      samples_more ns c.loop-k.clocks c.bit_samples.result k (omega arith) (omega arith) c.loop-k.invariant.0 (c.bit_samples.ensures ∙ ap (λ s. bit_samples s (get_or ns k 0)) c.loop-k.invariant.1),
      omega (arith, start_more ns k),
      omega arith,
      search (rules, places),
    )
