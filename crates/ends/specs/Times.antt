-- The times of an end, in its own clocks, and how long a frame's bits are held.
use Rattle.std.specs.Prelude.{ℕ, ◌+◌, ◌*◌, ◌<◌, ◌≤◌, List, [], ◌∷◌, ◌++◌, take, replicate, slice_index}
use Rattle.line.specs.declared.level.Level.{Level}
use Rattle.line.specs.declared.format.Format.{Format}
use Rattle.line.specs.Frames.{first_stop}

pub record Times : Type 0 where
  pub format : Format
  -- how many clocks each of thirteen bits lasts
  pub lengths : List ℕ
  -- three sample clocks for each bit through the first stop bit, one bit after the other, counted from the frame's first clock
  pub samples : List ℕ
  -- how many spaces after a framing fault make a break
  pub break_length : ℕ

abbrev pub sum : List ℕ → ℕ
sum [] = 0
sum (n ∷ ns) = n + sum ns

-- how many clocks the bits before bit k last
abbrev pub start_of : List ℕ → ℕ → ℕ
start_of lengths k = sum (take k lengths)

-- each bit held for its length
abbrev pub held : List ℕ → List Level → List Level
held [] bs = []
held (n ∷ ns) [] = []
held (n ∷ ns) (b ∷ bs) = replicate n b ++ held ns bs

-- how many samples are taken of a frame
abbrev pub samples_per_frame : Format → ℕ
samples_per_frame f = 3 * (1 + first_stop f)

-- each bit through bit `last` is sampled while it is held: both lists of times count from the frame's first clock
abbrev pub Inside : List ℕ → List ℕ → ℕ → Type 0
Inside lengths samples last = (k : ℕ) → k ≤ last
    → (start_of lengths k ≤ slice_index samples (3 * k)) × (slice_index samples (3 * k + 2) < start_of lengths (k + 1))
