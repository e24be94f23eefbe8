-- The two tables are those of the specification, and keep what a `Timing` asks of them.
use Rattle.std.proofs.Common.{◌+◌, arith, rules}
use Rattle.line.specs.Frames.{first_stop}
use Rattle.line.proofs.Bits.{stop_most}
use Rattle.std.proofs.lemmas.List.{get_or-take}
use Rattle.usart.proofs.Samples.{bit_lasting}
use Rattle.usart.proofs.Table.{frame_samples, inside_used, centred_used, sampled}
use Rattle.usart.proofs.usart.UsartKind.timing.Goals as goal

pub sample_clocks-requires-clause-lasting : goal.sample_clocks-requires-clause-lasting
sample_clocks-requires-clause-lasting c =
    let s = c.args.settings in
    let ns = c.bit_lengths-lengths.result in
    let each = bit_lasting s.divider s.modulator 13 ns c.bit_lengths-lengths.ensures s.least (omega arith) in
    λ k h. rw (get_or-take 12 ns k 0 h) (each k (omega arith))

pub invariant_of-result : goal.invariant_of-result
invariant_of-result c =
    let s = c.args.settings in
    let t = (sampled s.divider s.modulator _ _ c.bit_lengths-lengths.ensures c.sample_clocks.ensures s.least (omega arith)).tables in
    search rules

pub returns : goal.returns
returns c =
    let s = c.args.settings in
    let f = c.args.format in
    let t = sampled s.divider s.modulator _ _ c.bit_lengths-lengths.ensures c.sample_clocks.ensures s.least (omega arith) in
    record {
      times = cc (frame_samples s.divider s.modulator (1 + first_stop f) (omega (arith, stop_most f)));
      inside = inside_used _ _ (first_stop f) (t.inside f);
      centred = centred_used _ _ (first_stop f) (t.centred f);
    }
