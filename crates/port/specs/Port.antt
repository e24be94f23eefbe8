-- The times of the service port.
use Rattle.std.specs.Prelude.{◌≡◌, ℕ, ◌+◌, ◌*◌, ◌/◌, ◌%◌, ◌≤◌, List, map, replicate, Ok, Err, Result, slice_index, if◌then◌else◌}
use Rattle.std.specs.List.{range_with_len}
use Rattle.line.specs.declared.format.Format.{Format}
use Rattle.line.specs.declared.refusal.Refusal.{Refusal}
use Rattle.line.specs.declared.refusal.Refusal.TheVariants.{OutOfRange}
use Rattle.ends.specs.Times.{Times, start_of, samples_per_frame}

-- the dividers that the port can have
abbrev pub InRange : ℕ → Type 0
InRange d = (1 ≤ d) × (d ≤ 4096)

-- sample i is sample i mod 3 of bit i ÷ 3
abbrev pub sample_at : ℕ → ℕ → ℕ
sample_at d i = (16 * (i / 3) + 7 + i % 3) * d

-- the first n samples
unfoldable pub samples : ℕ → ℕ → List ℕ
samples d n = map (sample_at d) (range_with_len 0 n)

-- each bit through bit `last` begins 16 × d clocks after the one before, and is sampled 7 × d, 8 × d and 9 × d after its beginning
abbrev pub Spaced : ℕ → List ℕ → List ℕ → ℕ → Type 0
Spaced d lengths clocks last = (k : ℕ) → k ≤ last
    → (start_of lengths k ≡ 16 * k * d)
    × (slice_index clocks (3 * k) ≡ start_of lengths k + 7 * d)
    × (slice_index clocks (3 * k + 1) ≡ start_of lengths k + 8 * d)
    × (slice_index clocks (3 * k + 2) ≡ start_of lengths k + 9 * d)

abbrev pub port_times : Format → ℕ → Times
port_times f d = record {
  format = f;
  lengths = replicate 13 (16 * d);
  samples = samples d (samples_per_frame f);
  break_length = 160 * d;
}

-- a format with an address bit is refused
abbrev pub timed : Format → ℕ → Result Times Refusal
timed f d = if f.address then Err OutOfRange else Ok (port_times f d)
