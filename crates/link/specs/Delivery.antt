-- A link that has come to rest delivers.
use Rattle.std.specs.Prelude.{◌≡◌, ℕ, ◌+◌, ◌<◌, List, [], ◌∷◌, ◌++◌, reverse, length, take, ◌≢◌, slice_index, slice_index_or}
use Rattle.line.specs.declared.level.Level.{Level}
use Rattle.line.specs.declared.level.Level.TheVariants.{Space, Mark}
use Rattle.line.specs.Frames.{first_stop}
use Rattle.ends.specs.Times.{start_of}
use Rattle.ends.specs.Sender.{SoundSender}
use Rattle.ends.specs.Receiver.{SoundReceiver, Entry, last_sample}
use Rattle.link.specs.declared.act.Act.{Act}
use Rattle.link.specs.declared.act.Act.TheVariants.{Load, Send, Receive, Noise, Read}
use Rattle.link.specs.Link.{LinkState, AtRest, after}
use Rattle.link.specs.History.{History, history, given_levels, noted_entries, read_answers}
use Rattle.link.specs.Sampling.{SampledFrame}

abbrev pub Marks : List Level → Type 0
Marks [] = Unit {0}
Marks (Mark ∷ ls) = Marks ls
Marks (Space ∷ ls) = ⊥

abbrev pub Noiseless : List Act → Type 0
Noiseless [] = Unit {0}
Noiseless (Load c ∷ xs) = Noiseless xs
Noiseless (Send ∷ xs) = Noiseless xs
Noiseless (Receive ∷ xs) = Noiseless xs
Noiseless (Noise l ∷ xs) = ⊥
Noiseless (Read ∷ xs) = Noiseless xs

-- after the acts xs: nothing to send, nothing unread, and mark in the last clocks that the receiver was given, one more of them
-- than its last sample clock
pub record Quiet (m : LinkState) (xs : List Act) : Type 0 where
  pub no_level : (after m xs).sender.left ≡ []
  pub no_waiting : (after m xs).sender.waiting ≡ []
  pub no_unread : (after m xs).receiver.unread ≡ []
  pub marks : Marks (take (last_sample m.receiver + 1) (reverse (given_levels m xs)))

-- every frame begun met the sampling condition, as far as clocks were given
abbrev pub Sampled : LinkState → History → Type 0
Sampled m h = (i : ℕ) → i < length h.begun
    → SampledFrame m.sender m.receiver (λ r. slice_index h.given r) h.sends (length h.given) (slice_index h.begun i)

pub record Delivered (m : LinkState) (h : History) : Type 0 where
  -- what was received is what was first accepted, in order
  pub in_order : h.received ≡ take (length h.received) h.accepted
  -- and has each character whose first stop bit has ended
  pub complete : (i : ℕ) → i < length h.begun
      → slice_index h.begun i + start_of m.sender.lengths (first_stop m.sender.format + 1) < h.sends
      → i < length h.received
  -- a read answers the character as it was accepted, with no flag but overrun
  pub clean : (j : ℕ) → j < length h.reads
      → let n : ℕ = (slice_index_or h.reads j (0, (0, 0))).0 in
      let e : Entry = (slice_index_or h.reads j (0, (0, 0))).1 in
      (n < length h.received) × (e.0 ≡ slice_index h.accepted n) × (e.1 < 2)
  -- no character is read twice, and none after a later one
  pub each_once : (i j : ℕ) → i < j → j < length h.reads
      → (slice_index_or h.reads i (0, (0, 0))).0 < (slice_index_or h.reads j (0, (0, 0))).0
  -- the overrun flag stands exactly where the character accepted just before was never read
  pub overrun : (j : ℕ) → j < length h.reads
      → let n : ℕ = (slice_index_or h.reads j (0, (0, 0))).0 in
      let e : Entry = (slice_index_or h.reads j (0, (0, 0))).1 in
      let lost : Type 0 = (0 < n) × ((i : ℕ) → i < length h.reads → (slice_index_or h.reads i (0, (0, 0))).0 + 1 ≢ n) in
      (e.1 ≡ 1 → lost) × (lost → e.1 ≡ 1)

-- From a moment at which a link is quiet, acts with no noise deliver if each frame is sampled as it should be. The history has every
-- entry that a read answered.
abbrev pub Delivery : Type 0
Delivery = (m : LinkState) → SoundSender m.sender → SoundReceiver m.receiver → AtRest m
    → (before since : List Act) → Quiet m before → Noiseless since
    → let here : LinkState = after m before in
    Sampled here (history here since)
    → Delivered here (history here since) × (noted_entries (history here since) ≡ read_answers here since)

-- The same of a link in use: whatever it was given since it was joined at rest, by this list of acts and by those before it.
abbrev pub Delivers : LinkState → List Act → Type 0
Delivers m acts = (start : LinkState) → SoundSender start.sender → SoundReceiver start.receiver → AtRest start
    → (past before since : List Act) → m ≡ after start past → past ++ acts ≡ before ++ since → Quiet start before → Noiseless since
    → let here : LinkState = after start before in
    Sampled here (history here since)
    → Delivered here (history here since) × (noted_entries (history here since) ≡ read_answers here since)
