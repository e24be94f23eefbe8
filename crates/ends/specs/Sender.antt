-- What any sender means: what is fixed of it, what it holds, and what a load and a clock do.
use Rattle.std.specs.Prelude.{◌≡◌, ℕ, ◌^◌, ◌<◌, ◌≤◌, Bool, true, false, if◌then◌else◌, List, [], ◌∷◌, ◌++◌, length, Ok, Err, Result, ◌==◌, nat_le, slice_index}
use Rattle.line.specs.declared.level.Level.{Level}
use Rattle.line.specs.declared.level.Level.TheVariants.{Mark}
use Rattle.line.specs.declared.format.Format.{Format}
use Rattle.line.specs.declared.refusal.Refusal.{Refusal}
use Rattle.line.specs.declared.refusal.Refusal.TheVariants.{TooWide, Full}
use Rattle.line.specs.Frames.{width, frame}
use Rattle.ends.specs.Times.{held}

pub record SenderState : Type 0 where
  -- fixed
  pub format : Format
  -- how many clocks each bit lasts
  pub lengths : List ℕ
  -- how many characters may wait
  pub capacity : ℕ
  -- at each moment: the levels left of the frame on the line, and the characters that wait, the oldest first
  pub left : List Level
  pub waiting : List ℕ

-- what holds of every sender
pub record SoundSender (s : SenderState) : Type 0 where
  pub thirteen : length s.lengths ≡ 13
  pub lasting : (k : ℕ) → k < 13 → 0 < slice_index s.lengths k
  pub short : (k : ℕ) → slice_index s.lengths k ≤ 65536
  pub room : 0 < s.capacity
  pub few : length s.waiting ≤ s.capacity
  pub narrow : (i : ℕ) → i < length s.waiting → slice_index s.waiting i < 2 ^ width s.format

-- whether a list has nothing in it
abbrev pub empty : {T : Type 0} → List T → Bool
empty [] = true
empty (x ∷ xs) = false

-- the levels of a character's frame, clock by clock
abbrev pub frame_levels : SenderState → ℕ → List Level
frame_levels s c = held s.lengths (frame s.format c)

-- the sender with other levels left and other characters waiting
abbrev pub holding : SenderState → List Level → List ℕ → SenderState
holding s l w = record { format = s.format; lengths = s.lengths; capacity = s.capacity; left = l; waiting = w }

abbrev pub load_answer : SenderState → ℕ → Result Unit Refusal
load_answer s c =
    if nat_le (2 ^ width s.format) c then Err TooWide
    else if length s.waiting == s.capacity then Err Full
    else Ok tt

abbrev pub accepted : {T E : Type 0} → Result T E → Bool
accepted (Ok x) = true
accepted (Err e) = false

abbrev pub after_load : SenderState → ℕ → SenderState
after_load s c = if accepted (load_answer s c) then holding s s.left (s.waiting ++ (c ∷ [])) else s

-- at a clock: where no level is left and a character waits, the oldest becomes its frame's levels
abbrev pub ready : SenderState → List Level → List ℕ → SenderState
ready s (l ∷ ls) w = holding s (l ∷ ls) w
ready s [] [] = holding s [] []
ready s [] (c ∷ cs) = holding s (frame_levels s c) cs

abbrev pub first_of : List Level → Level
first_of [] = Mark
first_of (l ∷ ls) = l

abbrev pub rest_of : List Level → List Level
rest_of [] = []
rest_of (l ∷ ls) = ls

-- the level that a clock answers: the first one left, or mark
abbrev pub sent : SenderState → Level
sent s = first_of (ready s s.left s.waiting).left

abbrev pub after_send : SenderState → SenderState
after_send s = let r : SenderState = ready s s.left s.waiting in holding r (rest_of r.left) r.waiting

-- the frames of some characters, one after the other
abbrev pub frames : SenderState → List ℕ → List Level
frames s [] = []
frames s (c ∷ cs) = frame_levels s c ++ frames s cs
