-- The sampling condition of a frame, over the clocks given so far.
use Rattle.std.specs.Prelude.{ℕ, ◌+◌, ◌<◌, ◌≤◌}
use Rattle.line.specs.Frames.{first_stop}
use Rattle.ends.specs.Times.{start_of}
use Rattle.ends.specs.Sender.{SenderState}
use Rattle.ends.specs.Receiver.{ReceiverState, first_sample, third_sample}

-- The clocks given so far: `sends` send clocks and `receives` receive clocks, of which receive clock r came after `given r` send clocks.
-- Of a frame begun at send clock q, send clock j, from 0, is the last one given where q + j + 1 is the number given.

-- bit k is held: the last send clock given is one of its own
pub record Holds (s : SenderState) (q k count : ℕ) : Type 0 where
  pub entered : q + start_of s.lengths k < count
  pub not_left : count ≤ q + start_of s.lengths (k + 1)

-- the first receive clock while the start bit is held
pub record Edge (s : SenderState) (given : ℕ → ℕ) (receives q r : ℕ) : Type 0 where
  pub within : r < receives
  pub holds : Holds s q 0 (given r)
  pub first : (e : ℕ) → e < r → Holds s q 0 (given e) → ⊥

pub record SampledFrame (s : SenderState) (r : ReceiverState) (given : ℕ → ℕ) (sends receives q : ℕ) : Type 0 where
  -- a start bit that has ended had its edge
  pub has_edge : q + start_of s.lengths 1 < sends → (e : ℕ) × Edge s given receives q e
  -- the first sample of a bit is not taken before the sender holds the bit
  pub not_early : (e k : ℕ) → Edge s given receives q e → k ≤ first_stop r.format
      → e + first_sample r k < receives → q + start_of s.lengths k < given (e + first_sample r k)
  -- and the sender does not leave it before the third
  pub not_late : (e k : ℕ) → Edge s given receives q e → k ≤ first_stop r.format
      → q + start_of s.lengths (k + 1) < sends
      → (e + third_sample r k < receives) × (given (e + third_sample r k) ≤ q + start_of s.lengths (k + 1))
