-- The thirteen lengths, and where the samples lie.
use Rattle.std.proofs.Common.{◌≡◌, ℕ, zero, suc, ◌+◌, ◌*◌, ◌/◌, ◌%◌, ◌<◌, ◌≤◌, false, List, length, get_or, take, replicate, Ok, Err, sym, ap, ◌∙◌, ⊎_elim, add-zero, zero-add, zero-mul, arith}
use Rattle.std.proofs.lemmas.Nat.{mul-le}
use Rattle.std.proofs.lemmas.Bool.{cases_lt, cond-false}
use Rattle.std.proofs.lemmas.List.{take-replicate, get_or-replicate, get_or_past, length-replicate}
use Rattle.std.proofs.lemmas.List.FromFn.{get_or-map-range_with_len, length-map-range_with_len, take-map-range_with_len}
use Rattle.line.specs.declared.refusal.Refusal.TheVariants.{OutOfRange}
use Rattle.line.specs.declared.format.Format.{Format}
use Rattle.ends.specs.Times.{sum, start_of, Inside}
use Rattle.ends.proofs.Tables.{Tables}
use Rattle.port.specs.Port.{InRange, sample_at, samples, Spaced, port_times, timed}

pub timed_plain : (f : Format) (d : ℕ) → f.address ≡ false → timed f d ≡ Ok (port_times f d)
timed_plain f d plain = cond-false f.address (Err OutOfRange) (Ok (port_times f d)) plain

sum_alike : (k n : ℕ) → sum (replicate k n) ≡ k * n
sum_alike zero n = sym (zero-mul n)
sum_alike (suc k) n = omega (arith, sum_alike k n)

-- bits of one length begin at its multiples
start_alike : (m n k : ℕ) → k ≤ m → start_of (replicate m n) k ≡ k * n
start_alike m n k h = ap sum (take-replicate k m n h) ∙ sum_alike k n

-- sample j of bit k
sample_of : (d k j : ℕ) → j < 3 → sample_at d (3 * k + j) ≡ k * (16 * d) + (7 + j) * d
sample_of d k j h =
    let bit : (3 * k + j) / 3 ≡ k = omega arith in
    let which : (3 * k + j) % 3 ≡ j = omega arith in
    rw (bit, which) (omega arith)

-- the samples of a frame are the first of the table
pub frame_samples : (d n : ℕ) (clocks : List ℕ) → clocks ≡ samples d 36 → n ≤ 36 → take n clocks ≡ samples d n
unfolding samples
frame_samples d n clocks are h = ap (λ l. take n l) are ∙ take-map-range_with_len (sample_at d) 0 36 n h

module _ (d n : ℕ) (clocks : List ℕ) (are : clocks ≡ samples d n) where
  sample : (i : ℕ) → i < n → get_or clocks i 0 ≡ sample_at d i
  unfolding samples
  sample i h = rw are (get_or-map-range_with_len (sample_at d) 0 n i i 0 h (zero-add i))

  samples_length : length clocks ≡ n
  unfolding samples
  samples_length = ap length are ∙ length-map-range_with_len (sample_at d) 0 n

  pub spaced : (last : ℕ) → last ≤ 11 → 3 * (1 + last) ≡ n → Spaced d (replicate 13 (16 * d)) clocks last
  spaced last most size k h =
      let start = start_alike 13 (16 * d) k (omega arith) in
      let first = rw (add-zero (3 * k)) at (sample_of d k 0 (omega arith)) in (
        omega arith,
        omega (arith, sample (3 * k) (omega arith)),
        omega (arith, sample (3 * k + 1) (omega arith), sample_of d k 1 (omega arith)),
        omega (arith, sample (3 * k + 2) (omega arith), sample_of d k 2 (omega arith)),
      )

  -- each bit is sampled while it lasts
  pub inside : 1 ≤ d → (last : ℕ) → last ≤ 11 → 3 * (1 + last) ≡ n → Inside (replicate 13 (16 * d)) clocks last
  inside low last most size k h =
      let s = spaced last most size k h in
      let next = start_alike 13 (16 * d) (k + 1) (omega arith) in
      (omega arith, omega arith)

pub tables : (d : ℕ) (clocks : List ℕ) → clocks ≡ samples d 36 → InRange d → Tables (replicate 13 (16 * d)) clocks
tables d clocks are range =
    let at = sample d 36 clocks are in
    let size = samples_length d 36 clocks are in
    let factor : ℕ → ℕ = λ i. 16 * (i / 3) + 7 + i % 3 in
    record {
      thirteen = length-replicate 13 (16 * d);
      lasting = λ k h. omega (arith, get_or-replicate 13 k (16 * d) 0 h);
      short = λ k. ⊎_elim
          (λ h. omega (arith, get_or-replicate 13 k (16 * d) 0 h))
          (λ h. omega (arith, get_or_past (replicate 13 (16 * d)) k 0 h))
          (cases_lt k 13);
      all_samples = size;
      rising = λ i h.
          let more = mul-le (factor i) d (factor (i + 1)) d (omega arith) (omega arith) in
          omega (arith, at i (omega arith), at (i + 1) h);
      apart = λ k h.
          let next : 3 * (k + 1) + 0 ≡ 3 * k + 3 = omega arith in
          let third = sample_of d k 2 (omega arith) in
          let first = rw next at (sample_of d (k + 1) 0 (omega arith)) in
          omega (arith, at (3 * k + 2) (omega arith), at (3 * k + 3) (omega arith));
      early = λ i. ⊎_elim
          (λ h. omega (arith, at i h, mul-le (factor i) d 185 4096 (omega arith) range.1))
          (λ h. omega (arith, get_or_past clocks i 0 (omega arith)))
          (cases_lt i 36);
    }
