-- The tables of thirteen lengths and of the samples of the first twelve bits.
use Rattle.std.proofs.Common.{◌≡◌, ℕ, zero, suc, ◌+◌, ◌*◌, ◌<◌, ◌≤◌, List, [], ◌∷◌, length, get_or, take, ap, ◌∙◌, add-one, arith}
use Rattle.std.specs.List.{AllByRecursion as All}
use Rattle.std.proofs.lemmas.List.{length-take-le, take-take, get_or-take}
use Rattle.std.proofs.lemmas.List.FromFn.{length-map-range_with_len, take-map-range_with_len}
use Rattle.std.proofs.ByRecursion.{All-from_get_or, All-take}
use Rattle.line.specs.declared.format.Format.{Format}
use Rattle.line.proofs.Bits.{stop_most}
use Rattle.line.specs.Frames.{first_stop}
use Rattle.ends.specs.Times.{sum, Inside}
use Rattle.ends.proofs.Tables.{Tables}
use Rattle.usart.specs.Usart.{bit_length, lengths, samples, Lasting, Centred}
use Rattle.usart.proofs.Samples.{bit_lasting, length_samples, take_samples, rising, within, sum_most, inside, centred, apart}

-- the samples of a frame are the first of the table
pub frame_samples : (u m n : ℕ) → n ≤ 12 → take (3 * n) (samples 0 (take 12 (lengths u m 13))) ≡ samples 0 (lengths u m n)
unfolding lengths
frame_samples u m n h =
    take_samples 0 (take 12 (lengths u m 13)) n
    ∙ ap (λ ns. samples 0 ns) (take-take n 12 (lengths u m 13) h ∙ take-map-range_with_len (bit_length u m) 0 13 n (omega arith))

short : (ns : List ℕ) → All Lasting ns → (k : ℕ) → get_or ns k 0 ≤ 65536
short [] a k = omega arith
short (n ∷ ns) a zero = a.0.1
short (n ∷ ns) a (suc k) = short ns a.1 k

-- what is used of the table is sampled as the whole is
pub inside_used : (ns clocks : List ℕ) (last : ℕ) → Inside ns clocks last → Inside ns (take (3 * (1 + last)) clocks) last
inside_used ns clocks last within k h =
    let n : ℕ = 3 * (1 + last) in
    (omega (arith, (within k h).0, get_or-take n clocks (3 * k) 0 (omega arith)), omega (arith, (within k h).1, get_or-take n clocks (3 * k + 2) 0 (omega arith)))

pub centred_used : (ns clocks : List ℕ) (last : ℕ) → Centred ns clocks last → Centred ns (take (3 * (1 + last)) clocks) last
centred_used ns clocks last even k h =
    let n : ℕ = 3 * (1 + last) in
    let a = get_or-take n clocks (3 * k) 0 (omega arith) in
    let b = get_or-take n clocks (3 * k + 1) 0 (omega arith) in
    let c = get_or-take n clocks (3 * k + 2) 0 (omega arith) in
    rw (a, b, c) (even k h)

-- what holds of the two tables
pub record Sampled (ns clocks : List ℕ) : Type 0 where
  pub tables : Tables ns clocks
  pub inside : (f : Format) → Inside ns clocks (first_stop f)
  pub centred : (f : Format) → Centred ns clocks (first_stop f)

pub sampled : (u m : ℕ) (ns clocks : List ℕ) → ns ≡ lengths u m 13 → clocks ≡ samples 0 (take 12 ns) → 3 ≤ u → u < 65536 → Sampled ns clocks
unfolding lengths
sampled u m ns clocks is samples_are low high =
    let bits : length ns ≡ 13 = ap length is ∙ length-map-range_with_len (bit_length u m) 0 13 in
    let each = bit_lasting u m 13 ns is low high in
    let all = All-from_get_or Lasting ns 0 (λ k h. each k (omega arith)) in
    let front = All-take Lasting 12 ns all in
    let twelve : length (take 12 ns) ≡ 12 = length-take-le 12 ns (omega arith) in
    record {
      tables = record {
        thirteen = bits;
        lasting = λ k h. omega (arith, each k h);
        short = short ns all;
        all_samples = ap length samples_are ∙ omega (arith, length_samples 0 (take 12 ns));
        rising = λ i h. rw (samples_are, add-one) (rising 0 (take 12 ns) front i (omega arith));
        apart = λ k h. rw samples_are (apart (take 12 ns) front k (omega arith));
        early = λ i. rw samples_are (omega (arith, within 0 (take 12 ns) front i, sum_most (take 12 ns) front));
      };
      inside = λ f k h.
          let stop = stop_most f in
          let here = ap sum (take-take k 12 ns (omega arith)) in
          let next = ap sum (take-take (k + 1) 12 ns (omega arith)) in
          rw (samples_are, ← here, ← next) (inside (take 12 ns) front k (omega arith));
      centred = λ f k h.
          let stop = stop_most f in
          let here = ap sum (take-take k 12 ns (omega arith)) in
          rw (samples_are, ← here, ← get_or-take 12 ns k 0 (omega arith)) (centred (take 12 ns) front k (omega arith));
    }
