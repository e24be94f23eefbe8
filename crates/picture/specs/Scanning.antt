-- What a scan of a picture lists, and when it declines.
use Rattle.std.specs.Prelude.{◌≡◌, ℕ, Bool, if◌then◌else◌, List, [], ◌∷◌, ◌++◌, map, length, take, drop, Ok, Err, Result, nat_lt}
use Rattle.std.specs.List.{list_any, AllZip}
use Rattle.std.proofs.Common.{sym, ap, ◌∙◌, ap₂}
use Rattle.std.proofs.lemmas.List.{map-id, take-append-drop}
use Rattle.std.proofs.lemmas.Slice.Zip.{AllZip-map}
use Rattle.line.specs.declared.level.Level.{Level}
use Rattle.line.specs.declared.refusal.Refusal.{Refusal}
use Rattle.line.specs.declared.refusal.Refusal.TheVariants.{NotALevel, TooShort}
use Rattle.line.specs.Formats.{Agree}
use Rattle.line.specs.Frames.{first_stop}
use Rattle.line.specs.Levels.{level_of}
use Rattle.ends.specs.declared.timing.Timing.{Timing}
use Rattle.ends.specs.Times.{Times, Inside}
use Rattle.ends.specs.Sender.{SenderState, SoundSender}
use Rattle.ends.specs.Receiver.{ReceiverState, Entry, after_clock, after_read}
use Rattle.ends.specs.BareReceiver.{resting}
use Rattle.ends.specs.Timed.{times_of}
use Rattle.ends.specs.Runs.{taken_down, Sent, transmission, AllNarrow, clean}
use Rattle.picture.specs.Drawing.{bytes}

-- the levels that a picture's bytes stand for
abbrev pub levels : List ℕ → List Level
levels bs = map level_of bs

-- some byte stands for no level
abbrev pub any_other : List ℕ → Bool
any_other bs = list_any (nat_lt 1) bs

-- every entry that arrives at a new bare receiver with these times that is given the picture, each read as it arrives
abbrev pub listed_at : Times → List ℕ → List Entry
listed_at t bs = taken_down (resting t) (levels bs)

abbrev pub listed : Timing → List ℕ → List Entry
listed t bs = listed_at (times_of t) bs

-- the first n places hold what the entries give, one each, and the rest is as it was
abbrev pub Written : {E : Type 0} → (Entry → E → Type 0) → List Entry → ℕ → List E → List E → Type 0
Written gives es n new old = AllZip gives es (take n new) × (drop n new ≡ drop n old)

-- where an entry gives what a function says
pub written_by : {E : Type 0} (f : Entry → E) (es : List Entry) (n : ℕ) (new old : List E) → Written (λ e x. x ≡ f e) es n new old → new ≡ map f es ++ drop n old
written_by f es n new old w = sym (take-append-drop n new) ∙ ap₂ (λ xs ys. xs ++ ys) (AllZip-map f es (take n new) w.0) w.1

-- pairs of plain numbers are listed as they are
pub pairs_stay : (es : List Entry) (n : ℕ) (new old : List Entry) → Written (λ e x. x ≡ e) es n new old → new ≡ es ++ drop n old
pairs_stay es n new old w = written_by (λ e. e) es n new old w ∙ ap (λ xs. xs ++ drop n old) (map-id es)

-- how many entries arrive at a receiver with some bytes, or why none is listed: room is the length of the list
abbrev pub piece_answer : ReceiverState → List ℕ → ℕ → Result ℕ Refusal
piece_answer r bs room =
    let found = length (taken_down r (levels bs)) in
    if any_other bs then Err NotALevel else (if nat_lt room found then Err TooShort else Ok found)

-- the same of a new bare receiver, which is given a whole picture
abbrev pub scan_at : List ℕ → ℕ → Times → Result ℕ Refusal
scan_at bs room t = piece_answer (resting t) bs room

abbrev pub scan_answer : Timing → List ℕ → ℕ → Result ℕ Refusal
scan_answer t bs room = scan_at bs room (times_of t)

-- the receiver after some levels, each entry read as it arrives
abbrev pub after_listed : ReceiverState → List Level → ReceiverState
after_listed r [] = r
after_listed r (l ∷ ls) = after_listed (after_read (after_clock r l)) ls

-- Piece by piece a picture gives what it gives whole: what is listed of these bytes and of any that follow.
abbrev pub GoesOn : ReceiverState → List ℕ → Type 0
GoesOn r bs = (more : List ℕ) → taken_down r (levels (bs ++ more)) ≡ taken_down r (levels bs) ++ taken_down (after_listed r (levels bs)) (levels more)

-- A picture of frames whose bits are sampled while they are held, with any marks between them, is listed as the characters sent, with no flag.
abbrev pub RecoversAt : Times → List ℕ → List Entry → Type 0
RecoversAt t bs es = (s : SenderState) → SoundSender s → Agree s.format t.format → Inside s.lengths t.samples (first_stop t.format)
    → (xs : List Sent) (m : ℕ) → AllNarrow t.format xs → bs ≡ bytes (transmission s xs m) → es ≡ clean xs

abbrev pub Recovers : Timing → List ℕ → List Entry → Type 0
Recovers t bs es = RecoversAt (times_of t) bs es
