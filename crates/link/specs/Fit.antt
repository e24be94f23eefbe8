-- Whether two rates fit: steady clocks meet the sampling condition exactly where no bit can be early or late.
use Rattle.std.specs.Prelude.{◌≡◌, ℕ, ◌+◌, ◌*◌, ◌/◌, ◌<◌, ◌≤◌, List, length, slice_index}
use Rattle.line.specs.Frames.{first_stop}
use Rattle.ends.specs.Times.{start_of}
use Rattle.ends.specs.Sender.{SenderState, SoundSender}
use Rattle.ends.specs.Receiver.{ReceiverState, SoundReceiver, first_sample, third_sample}
use Rattle.link.specs.declared.act.Act.{Act}
use Rattle.link.specs.Link.{LinkState, AtRest, after}
use Rattle.link.specs.History.{History, history, noted_entries, read_answers}
use Rattle.link.specs.Sampling.{SampledFrame}
use Rattle.link.specs.Delivery.{Quiet, Noiseless, Delivered}

-- There are a send clocks to b receive clocks.

-- the first sample of bit k can come before the sender holds it
abbrev pub Early : SenderState → ReceiverState → ℕ → ℕ → ℕ → Type 0
Early s r a b k = first_sample r k * a < start_of s.lengths k * b

-- the sender can leave bit k before its third sample
abbrev pub Late : SenderState → ReceiverState → ℕ → ℕ → ℕ → Type 0
Late s r a b k = start_of s.lengths (k + 1) * b < (third_sample r k + 1) * a

abbrev pub Fits : SenderState → ReceiverState → ℕ → ℕ → Type 0
Fits s r a b = (k : ℕ) → k ≤ first_stop r.format → (Early s r a b k → ⊥) × (Late s r a b k → ⊥)

-- how many send clocks come before receive clock r, at the phase p
abbrev pub steady : ℕ → ℕ → ℕ → ℕ → ℕ
steady a b p r = (r * a + p) / b

-- a frame begun at any moment meets the sampling condition, at any phase and for any number of clocks so far
abbrev pub Meets : SenderState → ReceiverState → ℕ → ℕ → Type 0
Meets s r a b = (p q receives : ℕ) → p < b → SampledFrame s r (steady a b p) (steady a b p receives) receives q

abbrev pub Fitting : Type 0
Fitting = (s : SenderState) (r : ReceiverState) (a b : ℕ) → SoundSender s → 0 < a → 0 < b
    → (Fits s r a b → Meets s r a b) × (Meets s r a b → Fits s r a b)

-- the clocks of a history are steady: those that were given, and no more send clocks than come before the next receive clock
pub record Steady (a b p : ℕ) (h : History) : Type 0 where
  pub clocks : (r : ℕ) → r < length h.given → slice_index h.given r ≡ steady a b p r
  pub so_far : h.sends ≤ steady a b p (length h.given)

-- the ends of a link have the lengths, samples and format of these
pub record Like (m : LinkState) (s : SenderState) (r : ReceiverState) : Type 0 where
  pub lengths : m.sender.lengths ≡ s.lengths
  pub samples : m.receiver.samples ≡ r.samples
  pub format : m.receiver.format ≡ r.format

-- On a link of such ends, joined at rest, acts with no noise deliver from any quiet moment on if the clocks are steady, a send clocks to b
-- receive clocks. A phase below a + b lets as many send clocks come before the first receive clock as come between two of them.
abbrev pub SteadyDelivers : SenderState → ReceiverState → ℕ → ℕ → Type 0
SteadyDelivers s r a b = (m : LinkState) → Like m s r → SoundSender m.sender → SoundReceiver m.receiver → AtRest m
    → (p : ℕ) → p < a + b → (before since : List Act) → Quiet m before → Noiseless since
    → let here : LinkState = after m before in
    Steady a b p (history here since)
    → Delivered here (history here since) × (noted_entries (history here since) ≡ read_answers here since)
