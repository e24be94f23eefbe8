-- The clock of a frame that is not over lies before its last sample, so it can be counted on.
use Rattle.std.proofs.Common.{◌≡◌, ℕ, ◌+◌, ◌^◌, ◌<◌, subst, arith, w32, Fits, rules}
use Rattle.ends.specs.declared.doing.Doing.{Doing}
use Rattle.ends.specs.declared.doing.Doing.TheVariants.{Framing}
use Rattle.ends.specs.Samples.{taken_by, due_by}
use Rattle.ends.specs.Times.{samples_per_frame}
use Rattle.ends.specs.Timed.{sample_clocks}
use Rattle.ends.proofs.Sampling.{clock_early}
use Rattle.ends.proofs.receiving.BareReceiverReceiver.clock.Goals as goal

fits_below : (n : ℕ) → n < 2 ^ 32 → Fits w32 n
fits_below n h = search rules

pub overflow_add-clock : goal.overflow_add-clock
overflow_add-clock c =
    let r = c.args.self.now in
    let n : ℕ = c.in-Framing-default-default.clock in
    let s = c.in-Framing-default-default.samples in
    let e : r.doing ≡ Framing n s = c.in-Framing-default-default.is-0 in
    fits_below (n + 1) (omega (
      arith,
      clock_early r.timing s (n + 1)
          (subst (λ (d : Doing). taken_by d ≡ due_by (sample_clocks r.timing) d) e r.in_step)
          (subst (λ (d : Doing). taken_by d < samples_per_frame r.timing.format) e r.unended),
    ))
