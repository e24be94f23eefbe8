-- The times of the USART.
use Rattle.std.specs.Prelude.{◌≡◌, ℕ, zero, suc, ◌+◌, ◌-◌, ◌*◌, ◌/◌, ◌%◌, ◌^◌, ◌<◌, ◌≤◌, max, List, [], ◌∷◌, ◌++◌, map, nat_le, slice_index, if◌then◌else◌}
use Rattle.std.specs.List.{range_with_len}
use Rattle.line.specs.declared.format.Format.{Format}
use Rattle.line.specs.Frames.{first_stop}
use Rattle.ends.specs.Times.{Times, start_of}

-- bit k lasts the divider's clocks, and one more where bit k mod 8 of the modulator is set
abbrev pub bit_length : ℕ → ℕ → ℕ → ℕ
bit_length u m k = u + m / 2 ^ (k % 8) % 2

-- the lengths of the first n bits
unfoldable pub lengths : ℕ → ℕ → ℕ → List ℕ
lengths u m n = map (bit_length u m) (range_with_len 0 n)

-- the largest of 2 ^ k, .., 2, 1 that is not above n
unfoldable pub power_within : ℕ → ℕ → ℕ
power_within zero n = 1
power_within (suc k) n = if nat_le (2 ^ suc k) n then 2 ^ suc k else power_within k n

-- how far the outer samples of a bit of n clocks lie from the middle one; no bit has more than 2 ^ 16 clocks
abbrev pub distance : ℕ → ℕ
distance n = max 1 (power_within 16 n / 32)

-- the outer samples lie a thirty-second of the largest power of two within n clocks from the middle one, and at least one clock
abbrev pub Spaced : ℕ → ℕ → Type 0
Spaced n x = (k : ℕ) × (2 ^ k ≤ n) × (n < 2 ^ (k + 1)) × (x ≡ max 1 (2 ^ k / 32))

-- a bit has at least three clocks, as the divider has, and at most 2 ^ 16
abbrev pub Lasting : ℕ → Type 0
Lasting n = (3 ≤ n) × (n ≤ 65536)

-- the samples of a bit of n clocks that begins at clock s
abbrev pub bit_samples : ℕ → ℕ → List ℕ
bit_samples s n = (s + n / 2 - distance n) ∷ ((s + n / 2) ∷ ((s + n / 2 + distance n) ∷ []))

-- the samples of bits of these lengths, the first of which begins at clock s
abbrev pub samples : ℕ → List ℕ → List ℕ
samples s [] = []
samples s (n ∷ ns) = bit_samples s n ++ samples (s + n) ns

-- samples at clocks a, b and c of a bit of n clocks that begins at clock s: one half way through, the others evenly spaced about it
abbrev pub Even : ℕ → ℕ → ℕ → ℕ → ℕ → Type 0
Even s n a b c = (x : ℕ) × Spaced n x × (a + x ≡ b) × (b ≡ s + n / 2) × (c ≡ b + x)

-- so is each bit through bit `last` sampled
abbrev pub Centred : List ℕ → List ℕ → ℕ → Type 0
Centred ns clocks last = (k : ℕ) → k ≤ last
    → Even (start_of ns k) (slice_index ns k) (slice_index clocks (3 * k)) (slice_index clocks (3 * k + 1)) (slice_index clocks (3 * k + 2))

abbrev pub usart_times : Format → ℕ → ℕ → Times
usart_times f u m = record {
  format = f;
  lengths = lengths u m 13;
  samples = samples 0 (lengths u m (1 + first_stop f));
  break_length = 10 * u;
}
