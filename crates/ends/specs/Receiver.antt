-- What any receiver means: what is fixed of it, what it holds, and what a clock and a read do.
use Rattle.std.specs.Prelude.{◌≡◌, ℕ, pred, ◌+◌, ◌-◌, ◌*◌, ◌<◌, ◌≤◌, Bool, true, false, if◌then◌else◌, List, [], ◌∷◌, ◌++◌, length, take, drop, replicate, Ok, Err, Result, ◌==◌, bit_or, nat_le, nat_lt, slice_index}
use Rattle.line.specs.declared.level.Level.{Level}
use Rattle.line.specs.declared.level.Level.TheVariants.{Space, Mark}
use Rattle.line.specs.declared.format.Format.{Format}
use Rattle.line.specs.declared.refusal.Refusal.{Refusal}
use Rattle.line.specs.declared.refusal.Refusal.TheVariants.{NothingUnread}
use Rattle.line.specs.Levels.{number}
use Rattle.line.specs.Frames.{width, first_stop, parity_bits}
use Rattle.ends.specs.Times.{samples_per_frame}

-- a character and its flags, each a binary digit: 1 overrun, 2 parity, 4 framing, 8 break
abbrev pub Entry : Type 0
Entry = ℕ × ℕ

-- what a receiver is doing: nothing; in a frame, at this clock of it, with these samples so far; or counting the spaces after a framing fault
pub data Doing : Type 0 where
  idle : Doing
  framing : ℕ → List Level → Doing
  counting : ℕ → Doing

pub record ReceiverState : Type 0 where
  -- fixed
  pub format : Format
  -- three sample clocks for each bit through the first stop bit, one bit after the other
  pub samples : List ℕ
  -- how many spaces after a framing fault make a break
  pub break_length : ℕ
  -- how many entries may be unread
  pub capacity : ℕ
  -- at each moment: the unread entries, the oldest first, the level of the last clock, and what the receiver is doing
  pub unread : List Entry
  pub previous : Level
  pub doing : Doing

-- what holds of every receiver: a bit's samples never fall, and the last of a bit lies before the next bit's first
pub record SoundReceiver (r : ReceiverState) : Type 0 where
  pub all_samples : length r.samples ≡ samples_per_frame r.format
  pub rising : (i : ℕ) → i + 1 < length r.samples → slice_index r.samples i ≤ slice_index r.samples (i + 1)
  pub apart : (k : ℕ) → k < first_stop r.format → slice_index r.samples (3 * k + 2) < slice_index r.samples (3 * k + 3)
  pub early : (i : ℕ) → slice_index r.samples i < 1048576
  pub breaks : 0 < r.break_length
  pub room : 0 < r.capacity

abbrev pub first_sample : ReceiverState → ℕ → ℕ
first_sample r k = slice_index r.samples (3 * k)

abbrev pub third_sample : ReceiverState → ℕ → ℕ
third_sample r k = slice_index r.samples (3 * k + 2)

abbrev pub last_sample : ReceiverState → ℕ
last_sample r = third_sample r (first_stop r.format)

-- how many samples of a frame fall on its clock n
abbrev pub falling_on : ℕ → List ℕ → ℕ
falling_on n [] = 0
falling_on n (s ∷ ss) = if s == n then 1 + falling_on n ss else falling_on n ss

-- how many fall before clock n
abbrev pub falling_before : ℕ → List ℕ → ℕ
falling_before n [] = 0
falling_before n (s ∷ ss) = if nat_lt s n then 1 + falling_before n ss else falling_before n ss

abbrev pub majority : Level → Level → Level → Level
majority Mark Mark c = Mark
majority Mark Space c = c
majority Space Mark c = c
majority Space Space c = Space

-- the bits decided of the samples so far, each by the majority of its three
abbrev pub decided : List Level → List Level
decided [] = []
decided (a ∷ []) = []
decided (a ∷ (b ∷ [])) = []
decided (a ∷ (b ∷ (c ∷ ls))) = majority a b c ∷ decided ls

abbrev pub same_levels : List Level → List Level → Bool
same_levels [] [] = true
same_levels [] (b ∷ bs) = false
same_levels (a ∷ xs) [] = false
same_levels (Space ∷ xs) (Space ∷ bs) = same_levels xs bs
same_levels (Mark ∷ xs) (Mark ∷ bs) = same_levels xs bs
same_levels (Space ∷ xs) (Mark ∷ bs) = false
same_levels (Mark ∷ xs) (Space ∷ bs) = false

-- 4 where the first stop bit was space
abbrev pub framing_flag : List Level → ℕ
framing_flag [] = 4
framing_flag (Space ∷ bs) = 4
framing_flag (Mark ∷ bs) = 0

-- the entry of a frame whose bits, from the start bit to the first stop bit, were decided as bs
abbrev pub entry_of : Format → List Level → Entry
entry_of f bs =
    let body : List Level = take (width f) (drop 1 bs) in
    let check : List Level = take (first_stop f - (1 + width f)) (drop (1 + width f) bs) in
    (number body, (if same_levels check (parity_bits f.parity body) then 0 else 2) + framing_flag (drop (first_stop f) bs))

-- an entry joins the unread ones; where they fill the capacity it takes the place of the newest, with that one's flags and the overrun flag as well
abbrev pub joined : ℕ → List Entry → Entry → List Entry
joined room [] e = e ∷ []
joined room (u ∷ []) e = if nat_le room 1 then (e.0, bit_or (bit_or e.1 u.1) 1) ∷ [] else u ∷ (e ∷ [])
joined room (u ∷ (v ∷ us)) e = u ∷ joined (pred room) (v ∷ us) e

-- the receiver with other unread entries, another previous level and something else to do
abbrev pub with : ReceiverState → List Entry → Level → Doing → ReceiverState
with r us l d = record {
  format = r.format;
  samples = r.samples;
  break_length = r.break_length;
  capacity = r.capacity;
  unread = us;
  previous = l;
  doing = d;
}

-- what a clock comes to: what is done next, and the entry that arrives, if one does
pub record Heard : Type 0 where
  pub doing : Doing
  pub arrived : List Entry

abbrev pub nothing : Doing → Heard
nothing d = record { doing = d; arrived = [] }

-- after a framing fault spaces are counted
abbrev pub after_frame : Entry → Doing
after_frame e = if nat_lt e.1 4 then idle else counting 0

-- a frame goes on, unless its start bit was decided as mark
abbrev pub going_on : List Level → ℕ → List Level → Doing
going_on [] n ls = framing n ls
going_on (Space ∷ bs) n ls = framing n ls
going_on (Mark ∷ bs) n ls = idle

-- the samples after clock n of a frame, with level l
abbrev pub taken_now : List ℕ → ℕ → List Level → Level → List Level
taken_now samples n ls l = ls ++ replicate (falling_on n samples) l

-- a frame with these samples after clock n of it: it ends where its first stop bit is decided
abbrev pub heard_in_frame : Format → ℕ → List Level → Heard
heard_in_frame f n ls =
    let bs : List Level = decided ls in
    if nat_le (1 + first_stop f) (length bs)
    then record { doing = after_frame (entry_of f bs); arrived = entry_of f bs ∷ [] }
    else nothing (going_on bs n ls)

abbrev pub heard : ReceiverState → Level → Doing → Level → Heard
heard r Mark idle Space = heard_in_frame r.format 0 (taken_now r.samples 0 [] Space)
heard r Mark idle Mark = nothing idle
heard r Space idle l = nothing idle
heard r p (framing n ls) l = heard_in_frame r.format (n + 1) (taken_now r.samples (n + 1) ls l)
heard r p (counting n) Mark = nothing idle
heard r Mark (counting n) Space = heard_in_frame r.format 0 (taken_now r.samples 0 [] Space)
heard r Space (counting n) Space =
    if nat_le r.break_length (n + 1) then record { doing = idle; arrived = (0, 8) ∷ [] } else nothing (counting (n + 1))

abbrev pub hears : ReceiverState → Level → Heard
hears r l = heard r r.previous r.doing l

abbrev pub arrive : ℕ → List Entry → List Entry → List Entry
arrive room us [] = us
arrive room us (e ∷ es) = joined room us e

abbrev pub after_clock : ReceiverState → Level → ReceiverState
after_clock r l = with r (arrive r.capacity r.unread (hears r l).arrived) l (hears r l).doing

abbrev pub oldest : List Entry → Result Entry Refusal
oldest [] = Err NothingUnread
oldest (u ∷ us) = Ok u

abbrev pub without_oldest : List Entry → List Entry
without_oldest [] = []
without_oldest (u ∷ us) = us

abbrev pub after_read : ReceiverState → ReceiverState
after_read r = with r (without_oldest r.unread) r.previous r.doing
