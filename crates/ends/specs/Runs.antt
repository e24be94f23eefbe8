-- Laws over whole runs: what comes of many clocks of a sender, and of many levels given to a receiver.
use Rattle.std.specs.Prelude.{◌≡◌, ℕ, zero, suc, ◌^◌, ◌<◌, List, [], ◌∷◌, ◌++◌, drop, replicate, slice_index_or}
use Rattle.line.specs.declared.level.Level.{Level}
use Rattle.line.specs.declared.level.Level.TheVariants.{Mark}
use Rattle.line.specs.declared.format.Format.{Format}
use Rattle.line.specs.Formats.{Agree}
use Rattle.line.specs.Frames.{width, first_stop}
use Rattle.ends.specs.Times.{Inside}
use Rattle.ends.specs.Sender.{SenderState, SoundSender, frame_levels, frames, sent, after_send}
use Rattle.ends.specs.Receiver.{ReceiverState, Entry, hears, after_clock}

-- the sender after n clocks
abbrev pub after_sends : SenderState → ℕ → SenderState
after_sends s zero = s
after_sends s (suc n) = after_sends (after_send s) n

-- the levels that n clocks answer
abbrev pub spoken : SenderState → ℕ → List Level
spoken s zero = []
spoken s (suc n) = sent s ∷ spoken (after_send s) n

-- what a sender has yet to send: the rest of the frame on the line, and the frames of the characters that wait
abbrev pub due : SenderState → List Level
due s = s.left ++ frames s s.waiting

-- Clock n answers level n of what was due, and mark where that is at its end. So from rest the clocks answer the frames of the
-- characters taken, one after the other.
pub record Sends (s : SenderState) (n : ℕ) : Type 0 where
  pub level : sent (after_sends s n) ≡ slice_index_or (due s) n Mark
  pub rest : due (after_sends s n) ≡ drop n (due s)

-- the receiver after some levels
abbrev pub after_levels : ReceiverState → List Level → ReceiverState
after_levels r [] = r
after_levels r (l ∷ ls) = after_levels (after_clock r l) ls

-- the entries that arrive while a receiver is given some levels
abbrev pub taken_down : ReceiverState → List Level → List Entry
taken_down r [] = []
taken_down r (l ∷ ls) = (hears r l).arrived ++ taken_down (after_clock r l) ls

-- a frame on the line, after so many marks
pub record Sent : Type 0 where
  pub marks : ℕ
  pub character : ℕ

-- a line with some frames on it, and so many marks after the last
abbrev pub transmission : SenderState → List Sent → ℕ → List Level
transmission s [] m = replicate m Mark
transmission s (x ∷ xs) m = replicate x.marks Mark ++ (frame_levels s x.character ++ transmission s xs m)

-- no character is wider than the format
abbrev pub AllNarrow : Format → List Sent → Type 0
AllNarrow f [] = Unit {0}
AllNarrow f (x ∷ xs) = (x.character < 2 ^ width f) × AllNarrow f xs

-- the entries of the characters, with no flag
abbrev pub clean : List Sent → List Entry
clean [] = []
clean (x ∷ xs) = (x.character, 0) ∷ clean xs

-- Frames that are held for their lengths and sampled inside their bits arrive as their characters, with no flag; and of a line that
-- stays at mark nothing arrives.
abbrev pub Hears : ReceiverState → Type 0
Hears r = (s : SenderState) → SoundSender s → Agree s.format r.format → Inside s.lengths r.samples (first_stop r.format)
    → (xs : List Sent) (m : ℕ) → AllNarrow r.format xs → taken_down r (transmission s xs m) ≡ clean xs
