-- A clock of a frame that ends it, drops it, or leaves samples to come.
use Rattle.std.proofs.Common.{◌≡◌, ◌≢◌, ℕ, ◌+◌, ◌<◌, ◌≤◌, ◌⊎◌, length, inl, inr, sym, ◌∙◌, arith}
use Rattle.line.specs.declared.level.Level.{Level}
use Rattle.ends.specs.declared.timing.Timing.{Timing}
use Rattle.ends.specs.declared.samples.Samples.{Samples}
use Rattle.ends.specs.Times.{samples_per_frame}
use Rattle.ends.specs.Receiver.{nothing, going_on, decided, heard_in_frame, falling_before, taken_now}
use Rattle.ends.specs.Timed.{sample_clocks}
use Rattle.ends.specs.Samples.{taken}
use Rattle.ends.proofs.Sampling.{taken_length, in_step, not_past}
use Rattle.ends.proofs.InFrame.{frame_unended, over_by_digits}
use Rattle.ends.proofs.samples.Samples.clock.Goals as goal
use Rattle.ends.proofs.samples.Samples.clock.Goals.{else-take_down-via-then-take_down+else-self-sample_count, else-take_down-via-else-take_down}

-- after a clock n that leaves samples to come
record Unended (t : Timing) (u : Samples) (n : ℕ) : Type 0 where
  pub step : u.count ≡ falling_before (n + 1) (sample_clocks t)
  pub few : u.count < samples_per_frame t.format
  -- the frame goes on, unless the start bit was decided as mark
  pub goes_on : nothing (going_on (decided (taken u)) n (taken u)) ≡ heard_in_frame t.format n (taken u)

unended : (t : Timing) (s u : Samples) (n : ℕ) (l : Level) → s.count ≡ falling_before n (sample_clocks t) → s.count < samples_per_frame t.format
    → taken u ≡ taken_now (sample_clocks t) n (taken s) l → (u.count ≤ s.count) ⊎ (u.count ≢ samples_per_frame t.format) → Unended t u n
unended t s u n l before left is more =
    let step : u.count ≡ falling_before (n + 1) (sample_clocks t) = in_step t s u n l before is in
    let few : u.count < samples_per_frame t.format = omega (arith, left, more, not_past t u (n + 1) step) in
    record { step = step; few = few; goes_on = sym (frame_unended t.format n (taken u) (omega (arith, few, taken_length u))) }

pub returns-then-self-sample_count : goal.returns-then-self-sample_count
returns-then-self-sample_count c =
    let t = c.args.timing.now in
    let u = c.take_down.new.self in
    let n : ℕ = c.args.clock in
    let all : length (taken u) ≡ samples_per_frame t.format = taken_length u ∙ c.if-self-sample_count.true ∙ c.sample_count.ensures in
    record {
      taken = c.take_down.ensures.taken;
      heard = over_by_digits t.format n (taken u) c.entry.result c.digits-digits.result all c.digits-digits.ensures.value c.entry.ensures;
      in_step = in_step t c.args.self.now u n c.args.level c.requires.in_step c.take_down.ensures.taken;
      unended = λ e. cc;
    }

pub returns : goal.returns
returns c =
    let t = c.args.timing.now in
    let s = c.args.self.now in
    let u = c.take_down.new.self in
    let more : (u.count ≤ s.count) ⊎ (u.count ≢ samples_per_frame t.format) = elim c.else-take_down.branch [
      | else-take_down-via-then-take_down+else-self-sample_count w ↦ inr (λ e. w.if-self-sample_count.false (e ∙ sym w.sample_count.ensures))
      | else-take_down-via-else-take_down w ↦ inl (omega (arith, c.take_down.ensures.none w.if-take_down.false))
    ] in
    let x = unended t s u c.args.clock c.args.level c.requires.in_step c.requires.unended c.take_down.ensures.taken more in
    record { taken = c.take_down.ensures.taken; heard = c.progress.ensures c.args.clock ∙ x.goes_on; in_step = x.step; unended = λ e. x.few }
