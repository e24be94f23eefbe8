-- A frame begins with the samples of its first clock, all of them space.
use Rattle.std.proofs.Common.{◌≡◌, ◌≤◌, List, [], take, sym, ap, ◌∙◌, arith}
use Rattle.line.specs.declared.level.Level.{Level}
use Rattle.line.specs.declared.level.Level.TheVariants.{Space}
use Rattle.ends.specs.Receiver.{heard_in_frame, nothing, framing, falling_on, taken_now}
use Rattle.ends.specs.Timed.{sample_clocks}
use Rattle.ends.specs.Samples.{taken}
use Rattle.ends.proofs.Sampling.{before_zero, before_more, few_at_first, in_step}
use Rattle.ends.proofs.InFrame.{starts}
use Rattle.ends.proofs.samples.Samples.begin.Goals as goal

pub take_down-requires-clause-in_step : goal.take_down-requires-clause-in_step
take_down-requires-clause-in_step c = c.none-samples.ensures ∙ sym (before_zero (sample_clocks c.args.timing.now))

pub returns : goal.returns
returns c =
    let t = c.args.timing.now in
    let s = c.none-samples.result in
    let u = c.take_down.new.self in
    let none : taken s ≡ [] = ap (λ n. take n s.levels) c.none-samples.ensures in
    let is : taken u ≡ taken_now (sample_clocks t) 0 [] Space = c.take_down.ensures.taken ∙ ap (λ (l : List Level). taken_now (sample_clocks t) 0 l Space) none in
    let step = in_step t s u 0 Space (c.none-samples.ensures ∙ sym (before_zero (sample_clocks t))) c.take_down.ensures.taken in
    let few : falling_on 0 (sample_clocks t) ≤ 3 = omega (arith, few_at_first t, before_more 0 (sample_clocks t)) in
    record {
      taken = is;
      heard = ap (λ (l : List Level). heard_in_frame t.format 0 l) is ∙ starts t.format (falling_on 0 (sample_clocks t)) few ∙ ap (λ (l : List Level). nothing (framing 0 l)) (sym is);
      in_step = step;
      unended = omega (arith, step, few_at_first t);
    }
