-- A frame that is sampled inside its bits arrives.
use Rattle.std.proofs.Common.{◌≡◌, ℕ, zero, suc, ◌+◌, ◌*◌, ◌^◌, ◌<◌, ◌≤◌, List, [], ◌∷◌, ◌++◌, length, get_or, drop, replicate, sym, refl, ap, ◌∙◌, ap₂, ⊎_elim, append-nil, not-suc-le-zero, arith, length-append, get_or-drop, drop-cons}
use lib.ListN.{length-replicate}
use Rattle.line.specs.declared.level.Level.{Level}
use Rattle.line.specs.declared.level.Level.TheVariants.{Space, Mark}
use Rattle.line.specs.Formats.{Agree}
use Rattle.line.specs.Frames.{width, first_stop, stop_count, frame}
use Rattle.line.proofs.Bits.{through, through_length, frame_through, frame_length, frame_fits, frame_stops, agree_first_stop, agree_through, stop_some}
use Rattle.ends.specs.Times.{Inside, start_of, samples_per_frame}
use Rattle.ends.specs.Sender.{SenderState, SoundSender, frame_levels}
use Rattle.ends.specs.Receiver.{ReceiverState, SoundReceiver, Entry, Doing, idle, framing, counting, Heard, nothing, heard, heard_in_frame, with, decided, going_on, taken_now, falling_on, falling_before, first_sample, third_sample, last_sample, entry_of, after_frame, arrive}
use Rattle.ends.specs.Runs.{taken_down, Sent, transmission, AllNarrow, clean, Hears}
use Rattle.ends.proofs.Held.{level_at, held_length, marks_from, sum_mono}
use Rattle.ends.proofs.Sampling.{Taken, Taking, sound_rising, taken_more, decided_all, decided_first, before_zero, before_more, all_by_last, not_all_before}
use Rattle.ends.proofs.InFrame.{frame_over, frame_unended}
use Rattle.ends.proofs.Entries.{entry_is}

-- the same, by the parts of a receiver that change
abbrev pub listens : ReceiverState → Level → Doing → List Level → List Entry
listens r p d [] = []
listens r p d (l ∷ ls) = (heard r p d l).arrived ++ listens r l (heard r p d l).doing ls

heard_fixed : (r : ReceiverState) (us : List Entry) (q p : Level) (e d : Doing) (l : Level) → heard (with r us q e) p d l ≡ heard r p d l
heard_fixed r us q Mark e idle Space = refl
heard_fixed r us q Mark e idle Mark = refl
heard_fixed r us q Space e idle l = refl
heard_fixed r us q p e (framing n ls) l = refl
heard_fixed r us q p e (counting n) Mark = refl
heard_fixed r us q Mark e (counting n) Space = refl
heard_fixed r us q Space e (counting n) Space = refl

pub taken_by_parts : (r : ReceiverState) (us : List Entry) (p : Level) (d : Doing) (ls : List Level) → taken_down (with r us p d) ls ≡ listens r p d ls
taken_by_parts r us p d [] = refl
taken_by_parts r us p d (l ∷ ls) =
    let h : Heard = heard (with r us p d) p d l in
    ap {B = List Entry} (λ x. h.arrived ++ x) (taken_by_parts r (arrive r.capacity us h.arrived) l h.doing ls)
    ∙ ap {B = List Entry} (λ g. g.arrived ++ listens r l g.doing ls) (heard_fixed r us p p d d l)

-- marks pass an idle receiver by
marks_pass : (r : ReceiverState) (ls rest : List Level) → ((i : ℕ) → get_or ls i Mark ≡ Mark) → listens r Mark idle (ls ++ rest) ≡ listens r Mark idle rest
marks_pass r [] rest all = refl
marks_pass r (l ∷ ls) rest all =
    ap {B = List Entry} (λ x. listens r Mark idle (x ∷ (ls ++ rest))) (all 0) ∙ marks_pass r ls rest (λ i. all (suc i))

marks_only : (n i : ℕ) → get_or (replicate n Mark) i Mark ≡ Mark
marks_only zero i = refl
marks_only (suc n) zero = refl
marks_only (suc n) (suc i) = marks_only n i

one_more : (n : ℕ) → n + 1 ≡ suc n
one_more n = omega arith

module _ (s : SenderState) (oks : SoundSender s) (r : ReceiverState) (okr : SoundReceiver r) (agree : Agree s.format r.format)
    (inside : Inside s.lengths r.samples (first_stop r.format)) (c : ℕ) (narrow : c < 2 ^ width r.format) where
  abbrev bits : List Level
  bits = through r.format c

  abbrev last : ℕ
  last = last_sample r

  -- the level at clock n of the frame
  abbrev level : ℕ → Level
  level n = get_or (frame_levels s c) n Mark

  same_stop : first_stop s.format ≡ first_stop r.format
  same_stop = agree_first_stop s.format r.format agree

  many : first_stop r.format < length (frame s.format c)
  many = omega (arith, frame_length s.format c, same_stop, stop_some s.format.stops)

  fits : length (frame s.format c) ≤ length s.lengths
  fits = omega (arith, frame_fits s.format c, oks.thirteen)

  -- each sample is of the bit that is held
  level_is : (n k : ℕ) → Taking r n k → level n ≡ get_or bits k Mark
  level_is n k t =
      let i = inside k t.bit in
      let next : start_of s.lengths (k + 1) ≡ start_of s.lengths (suc k) = ap (λ (x : ℕ). start_of s.lengths x) (one_more k) in
      level_at k s.lengths (frame s.format c) n Mark (omega (arith, t.bit, many)) fits (omega (arith, i.0, t.begun)) (omega (arith, i.1, t.unended, next))
      ∙ frame_through s.format c k Mark (omega (arith, t.bit, same_stop))
      ∙ ap (λ (l : List Level). get_or l k Mark) (agree_through s.format r.format c agree)

  -- from the last sample on the line is at mark
  stopped : (n : ℕ) → last ≤ n → level n ≡ Mark
  stopped n h =
      let i = inside (first_stop r.format) (omega arith) in
      let f : ℕ = first_stop r.format in
      let three : first_sample r f ≤ third_sample r f = sound_rising r okr (3 * f) (3 * f + 2) (omega arith) (omega (arith, okr.all_samples)) in
      marks_from f s.lengths (frame s.format c) (stop_count s.format.stops) n
      (ap (λ (x : ℕ). drop x (frame s.format c)) (sym same_stop) ∙ frame_stops s.format c) (omega (arith, i.0, three, h))

  long : last < length (frame_levels s c)
  long =
      let f : ℕ = first_stop r.format in
      let i = inside f (omega arith) in
      omega (arith, i.1, held_length s.lengths (frame s.format c), sum_mono (f + 1) (length (frame s.format c)) s.lengths (omega (arith, many)))

  -- the samples taken before clock n
  pub record Before (n : ℕ) (xs : List Level) : Type 0 where
    pub taken : Taken xs bits
    pub amount : length xs ≡ falling_before n r.samples

  after : (n : ℕ) (xs : List Level) → Before n xs → Before (suc n) (taken_now r.samples n xs (level n))
  after n xs b = record {
    taken = taken_more r okr n xs bits (level n) b.taken b.amount (level_is n);
    amount =
        let x : ℕ = falling_on n r.samples in
        omega (arith, b.amount, length-append xs (replicate x (level n)), length-replicate x (level n), before_more n r.samples);
  }

  -- clock n of the frame, after which its other levels come, and then others
  abbrev heard_at : ℕ → List Level → Heard
  heard_at n xs = heard_in_frame r.format n (taken_now r.samples n xs (level n))

  abbrev from_clock : ℕ → List Level → List Level → List Entry
  from_clock n xs rest = (heard_at n xs).arrived ++ listens r (level n) (heard_at n xs).doing (drop (suc n) (frame_levels s c) ++ rest)

  ends : (n : ℕ) (xs rest : List Level) → n ≡ last → Before n xs → from_clock n xs rest ≡ (c, 0) ∷ listens r Mark idle rest
  ends n xs rest e b =
      let now : List Level = taken_now r.samples n xs (level n) in
      let a = after n xs b in
      let all : length now ≡ samples_per_frame r.format = a.amount ∙ all_by_last r okr (suc n) (omega arith) in
      let same : decided now ≡ bits = decided_all now bits a.taken (omega (arith, all, through_length r.format c)) in
      let is : heard_at n xs ≡ record { doing = idle; arrived = (c, 0) ∷ [] } =
      frame_over r.format n now all
      ∙ ap {B = Heard} (λ x. record { doing = after_frame x; arrived = x ∷ [] }) (ap (λ (l : List Level). entry_of r.format l) same ∙ entry_is r.format c narrow) in
      ap {B = List Entry} (λ h. h.arrived ++ listens r (level n) h.doing (drop (suc n) (frame_levels s c) ++ rest)) is
      ∙ ap {B = List Entry} (λ l. (c, 0) ∷ listens r l idle (drop (suc n) (frame_levels s c) ++ rest)) (stopped n (omega arith))
      ∙ ap {B = List Entry} (λ es. (c, 0) ∷ es)
      (marks_pass r (drop (suc n) (frame_levels s c)) rest (λ i. get_or-drop (suc n) (frame_levels s c) i Mark ∙ stopped (suc n + i) (omega arith)))

  goes_on : (n : ℕ) (xs rest : List Level) → n < last → Before n xs → from_clock n xs rest ≡ from_clock (suc n) (taken_now r.samples n xs (level n)) rest
  goes_on n xs rest h b =
      let now : List Level = taken_now r.samples n xs (level n) in
      let a = after n xs b in
      let few : length now < samples_per_frame r.format = omega (arith, a.amount, not_all_before r okr (suc n) (omega arith)) in
      let on : nothing (going_on (decided now) n now) ≡ nothing (framing n now) = ⊎_elim
      (λ (z : decided now ≡ []). ap {B = Heard} (λ l. nothing (going_on l n now)) z)
      (λ (z : (others : List Level) × (decided now ≡ get_or bits 0 Mark ∷ others)). ap {B = Heard} (λ l. nothing (going_on l n now)) z.1)
      (decided_first now bits a.taken) in
      ap {B = List Entry} (λ g. g.arrived ++ listens r (level n) g.doing (drop (suc n) (frame_levels s c) ++ rest)) (frame_unended r.format n now few ∙ on)
      ∙ ap {B = List Entry} (λ l. listens r (level n) (framing n now) (l ++ rest)) (drop-cons (frame_levels s c) (suc n) Mark (omega (arith, h, long)))
      ∙ ap {B = List Entry} (λ k. at_clock k now) (one_more n)
    where
      at_clock : ℕ → List Level → List Entry
      at_clock k now =
          let g : Heard = heard_in_frame r.format k (taken_now r.samples k now (level (suc n))) in
          g.arrived ++ listens r (level (suc n)) g.doing (drop (suc (suc n)) (frame_levels s c) ++ rest)

  arrives : (m n : ℕ) (xs rest : List Level) → n + m ≡ last → Before n xs → from_clock n xs rest ≡ (c, 0) ∷ listens r Mark idle rest
  arrives zero n xs rest e b = ends n xs rest (omega arith) b
  arrives (suc m) n xs rest e b = goes_on n xs rest (omega arith) b ∙ arrives m (suc n) (taken_now r.samples n xs (level n)) rest (omega arith) (after n xs b)

  pub frame_arrives : (rest : List Level) → listens r Mark idle (frame_levels s c ++ rest) ≡ (c, 0) ∷ listens r Mark idle rest
  frame_arrives rest =
      let first : level 0 ≡ Space =
      level_at 0 s.lengths (frame s.format c) 0 Mark (omega (arith, many)) fits (omega arith) (omega (arith, (inside 0 (omega arith)).1)) in
      ap {B = List Entry} (λ l. listens r Mark idle (l ++ rest)) (drop-cons (frame_levels s c) 0 Mark (omega (arith, long)))
      ∙ ap {B = List Entry} (λ l. listens r Mark idle (l ∷ (drop 1 (frame_levels s c) ++ rest))) first
      ∙ sym (ap {B = List Entry} (λ l. (heard_in_frame r.format 0 (taken_now r.samples 0 [] l)).arrived
      ++ listens r l (heard_in_frame r.format 0 (taken_now r.samples 0 [] l)).doing (drop 1 (frame_levels s c) ++ rest)) first)
      ∙ arrives last 0 [] rest (omega arith) (record { taken = λ k j three h. absurd (not-suc-le-zero h); amount = sym (before_zero r.samples) })

all_arrive : (s : SenderState) → SoundSender s → (r : ReceiverState) → SoundReceiver r → Agree s.format r.format
    → Inside s.lengths r.samples (first_stop r.format)
    → (xs : List Sent) (m : ℕ) → AllNarrow r.format xs → listens r Mark idle (transmission s xs m) ≡ clean xs
all_arrive s oks r okr agree inside [] m narrow =
    sym (ap {B = List Entry} (λ l. listens r Mark idle l) (append-nil (replicate m Mark))) ∙ marks_pass r (replicate m Mark) [] (marks_only m)
all_arrive s oks r okr agree inside (x ∷ xs) m narrow =
    marks_pass r (replicate x.marks Mark) (frame_levels s x.character ++ transmission s xs m) (marks_only x.marks)
    ∙ frame_arrives s oks r okr agree inside x.character narrow.0 (transmission s xs m)
    ∙ ap {B = List Entry} (λ es. (x.character, 0) ∷ es) (all_arrive s oks r okr agree inside xs m narrow.1)

-- a receiver at rest hears frames that are sampled inside their bits
pub hears_all : (r : ReceiverState) → SoundReceiver r → r.previous ≡ Mark → r.doing ≡ idle → Hears r
hears_all r okr marked resting s oks agree inside xs m narrow =
    taken_by_parts r r.unread r.previous r.doing (transmission s xs m)
    ∙ ap₂ {C = List Entry} (λ p d. listens r p d (transmission s xs m)) marked resting
    ∙ all_arrive s oks r okr agree inside xs m narrow
