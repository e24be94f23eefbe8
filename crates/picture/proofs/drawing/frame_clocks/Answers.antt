-- The sum over the first bits' lengths.
use Rattle.std.proofs.Common.{◌≡◌, take, ap, ◌∙◌, arith, rules}
use borrow.Author.Tests.{tests}
use Rattle.std.proofs.lemmas.Iterator.{YieldsList-from_slice, YieldsList-from_map}
use Rattle.std.proofs.lemmas.Iterator.Consumers.{YieldsList-at, fits_by_from_yields_list, sum_by_from_yields_List}
use Rattle.line.specs.Frames.{frame_bits}
use Rattle.ends.specs.Times.{start_of}
use Rattle.picture.specs.Drawing.{frame_clocks}
use Rattle.ends.proofs.Held.{start_most}
use Rattle.picture.proofs.Clocks.{same_sum, bits_most}
use Rattle.picture.proofs.drawing.frame_clocks.Goals as goal

pub sum-requires-clause-fits : goal.sum-requires-clause-fits
sum-requires-clause-fits c =
    let t = c.args.timing.now in
    fits_by_from_yields_list (λ x. x) (take c.bits.result t.lengths) c.map.result 18446744073709551616
    (YieldsList-from_map _ (λ x. x) (YieldsList-at c.map.ensures.source (YieldsList-from_slice (take c.bits.result t.lengths) cc)) c.map.ensures.closure (λ x r q k. search (rules, tests)))
    (omega (arith, same_sum (take c.bits.result t.lengths), start_most t.lengths t.short c.bits.result, bits_most t.format, c.bits.ensures))

pub returns-clause-value : goal.returns-clause-value
returns-clause-value c =
    let t = c.args.timing.now in
    sum_by_from_yields_List (λ x. x) (take c.bits.result t.lengths) c.map.result _ c.sum.ensures.ran
    (YieldsList-from_map _ (λ x. x) (YieldsList-at c.map.ensures.source (YieldsList-from_slice (take c.bits.result t.lengths) cc)) c.map.ensures.closure (λ x r q k. search (rules, tests)))
    ∙ same_sum (take c.bits.result t.lengths)
    ∙ ap (λ k. start_of t.lengths k) c.bits.ensures

pub returns-clause-bound : goal.returns-clause-bound
returns-clause-bound c =
    let t = c.args.timing.now in
    let value : c.sum.result ≡ frame_clocks t = returns-clause-value c in
    omega (arith, value, start_most t.lengths t.short (frame_bits t.format), bits_most t.format)
