-- That a bare receiver is what any receiver is: the lemmas of the law that its `impl` states.
use Rattle.std.specs.Prelude.{◌≡◌, ℕ, ◌+◌, ◌*◌, ◌<◌, ◌≤◌, List, length, slice_index}
use Rattle.std.proofs.Common.{⊎_elim, arith}
use Rattle.std.proofs.lemmas.List.{get_or_past, get_or-take, length-take-le}
use Rattle.std.proofs.lemmas.Bool.{cases_lt}
use Rattle.line.specs.declared.level.Level.{Level}
use Rattle.line.specs.Frames.{first_stop}
use Rattle.line.proofs.Bits.{width_most, parity_most}
use Rattle.ends.specs.declared.timing.Timing.{Timing}
use Rattle.ends.specs.Receiver.{SoundReceiver, Entry, Doing, with}
use Rattle.ends.specs.BareReceiver.{at_rest}
use Rattle.ends.specs.Times.{samples_per_frame}
use Rattle.ends.specs.Timed.{sample_clocks}

-- the samples of a timing are those of its table that the format uses
pub samples_used : (t : Timing) → samples_per_frame t.format ≤ 36
samples_used t = omega (arith, width_most t.format, parity_most t.format.parity)

pub clocks_length : (t : Timing) → length (sample_clocks t) ≡ samples_per_frame t.format
clocks_length t = length-take-le (samples_per_frame t.format) t.samples (omega (arith, samples_used t, t.all_samples))

pub clock_at : (t : Timing) (i : ℕ) → i < samples_per_frame t.format → slice_index (sample_clocks t) i ≡ slice_index t.samples i
clock_at t i h = get_or-take (samples_per_frame t.format) t.samples i 0 h

pub clocks_step : (t : Timing) (i : ℕ) → i + 1 < length (sample_clocks t) → slice_index (sample_clocks t) i ≤ slice_index (sample_clocks t) (i + 1)
clocks_step t i h =
    let n = clocks_length t in
    let m = samples_used t in
    omega (arith, clock_at t i (omega arith), clock_at t (i + 1) (omega arith), t.rising i (omega arith))

pub clocks_early : (t : Timing) (i : ℕ) → slice_index (sample_clocks t) i < 1048576
clocks_early t i = ⊎_elim
    (λ (l : i < samples_per_frame t.format). omega (arith, clock_at t i l, t.early i))
    (λ (g : samples_per_frame t.format ≤ i). omega (arith, get_or_past (sample_clocks t) i 0 (omega (arith, g, clocks_length t))))
    (cases_lt i (samples_per_frame t.format))

pub clocks_apart : (t : Timing) (k : ℕ) → k < first_stop t.format → slice_index (sample_clocks t) (3 * k + 2) < slice_index (sample_clocks t) (3 * k + 3)
clocks_apart t k h =
    omega (arith, clock_at t (3 * k + 2) (omega (arith, h)), clock_at t (3 * k + 3) (omega (arith, h)), t.apart k (omega (arith, h, width_most t.format, parity_most t.format.parity)))

-- a bare receiver's fixed parts are in range, whatever it holds
pub sound_bare : (t : Timing) (us : List Entry) (p : Level) (d : Doing) → SoundReceiver (with (at_rest t) us p d)
sound_bare t us p d = record {
  all_samples = clocks_length t;
  rising = clocks_step t;
  apart = clocks_apart t;
  early = clocks_early t;
  breaks = t.breaks;
  room = omega arith;
}
