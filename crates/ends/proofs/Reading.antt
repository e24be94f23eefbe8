-- An entry that is read as it arrives.
use Rattle.std.proofs.Common.{◌≡◌, ℕ, ◌+◌, ◌≤◌, Bool, true, false, if◌then◌else◌, nat_le, List, [], ◌∷◌, ◌++◌, length, sym, refl, ap, ◌∙◌, ap₂, arith}
use Rattle.std.specs.Result.{result_ok}
use Rattle.std.specs.Option.{option_to_list}
use Rattle.line.specs.declared.level.Level.{Level}
use Rattle.line.specs.declared.level.Level.TheVariants.{Space, Mark}
use Rattle.line.specs.declared.format.Format.{Format}
use Rattle.line.specs.Frames.{first_stop}
use Rattle.ends.specs.Receiver.{ReceiverState, Entry, Doing, idle, framing, counting, nothing, heard, hears, heard_in_frame, after_frame, entry_of, decided, going_on, arrive, after_clock, after_read, oldest, without_oldest, with, taken_now}
use Rattle.ends.specs.Runs.{after_levels, taken_down}
use Rattle.ends.proofs.Arriving.{taken_by_parts}

in_frame_few : (f : Format) (n : ℕ) (ls : List Level) → length (heard_in_frame f n ls).arrived ≤ 1
in_frame_few f n ls = go (nat_le (1 + first_stop f) (length (decided ls)))
  where
    go : (b : Bool) → length (if b then record { doing = after_frame (entry_of f (decided ls)); arrived = entry_of f (decided ls) ∷ [] } else nothing (going_on (decided ls) n ls)).arrived ≤ 1
    go true = omega arith
    go false = omega arith

-- a clock brings one entry at most
few : (r : ReceiverState) (p : Level) (d : Doing) (l : Level) → length (heard r p d l).arrived ≤ 1
few r Mark idle Space = in_frame_few r.format 0 (taken_now r.samples 0 [] Space)
few r Mark idle Mark = omega arith
few r Space idle l = omega arith
few r p (framing n ls) l = in_frame_few r.format (n + 1) (taken_now r.samples (n + 1) ls l)
few r p (counting n) Mark = omega arith
few r Mark (counting n) Space = in_frame_few r.format 0 (taken_now r.samples 0 [] Space)
few r Space (counting n) Space = go (nat_le r.break_length (n + 1))
  where
    go : (b : Bool) → length (if b then record { doing = idle; arrived = (0, 8) ∷ [] } else nothing (counting (n + 1))).arrived ≤ 1
    go true = omega arith
    go false = omega arith

pub one_at_most : (r : ReceiverState) (l : Level) → length (hears r l).arrived ≤ 1
one_at_most r l = few r r.previous r.doing l

-- what becomes of at most one entry
record One (room : ℕ) (es : List Entry) : Type 0 where
  pub joins : arrive room [] es ≡ es
  pub answered : option_to_list (result_ok (oldest es)) ≡ es
  pub gone : without_oldest es ≡ []

one : (room : ℕ) (es : List Entry) → length es ≤ 1 → One room es
one room [] h = record { joins = refl; answered = refl; gone = refl }
one room (e ∷ []) h = record { joins = refl; answered = refl; gone = refl }
one room (e ∷ (d ∷ es)) h = absurd (omega arith)

-- unread entries do not change what comes
pub unread_apart : (r : ReceiverState) (us : List Entry) (ls : List Level) → taken_down (with r us r.previous r.doing) ls ≡ taken_down r ls
unread_apart r us ls = taken_by_parts r us r.previous r.doing ls ∙ sym (taken_by_parts r r.unread r.previous r.doing ls)

module _ (r : ReceiverState) (none : r.unread ≡ []) (l : Level) where
  is_one : One r.capacity (hears r l).arrived
  is_one = one r.capacity (hears r l).arrived (one_at_most r l)

  unread_now : (after_clock r l).unread ≡ (hears r l).arrived
  unread_now = ap (λ (us : List Entry). arrive r.capacity us (hears r l).arrived) none ∙ is_one.joins

  pub none_left : (after_read (after_clock r l)).unread ≡ []
  none_left = ap without_oldest unread_now ∙ is_one.gone

  -- a read just after a clock answers what has come
  pub read_one : option_to_list (result_ok (oldest (after_clock r l).unread)) ≡ (hears r l).arrived
  read_one = ap (λ (es : List Entry). option_to_list (result_ok (oldest es))) unread_now ∙ is_one.answered

  -- what a clock and a read answer, and what comes after
  pub read_now : (ls : List Level)
      → taken_down r (l ∷ ls) ≡ option_to_list (result_ok (oldest (after_clock r l).unread)) ++ taken_down (after_read (after_clock r l)) ls
  read_now ls = ap₂ {C = List Entry} (λ es fs. es ++ fs)
      (sym read_one)
      (sym (unread_apart (after_clock r l) (without_oldest (after_clock r l).unread) ls))

none_of : (xs ys : List Entry) → xs ++ ys ≡ [] → (xs ≡ []) × (ys ≡ [])
none_of [] ys e = (refl, e)
none_of (x ∷ xs) ys e = cc

-- a clock with which nothing comes leaves nothing unread
pub still_none : (r : ReceiverState) (l : Level) → r.unread ≡ [] → (hears r l).arrived ≡ [] → (after_clock r l).unread ≡ []
still_none r l none quiet = ap (λ (es : List Entry). arrive r.capacity r.unread es) quiet ∙ none

pub first_quiet : (r : ReceiverState) (l : Level) (ls : List Level) → taken_down r (l ∷ ls) ≡ [] → (hears r l).arrived ≡ []
first_quiet r l ls quiet = (none_of (hears r l).arrived (taken_down (after_clock r l) ls) quiet).0

pub rest_quiet : (r : ReceiverState) (l : Level) (ls : List Level) → taken_down r (l ∷ ls) ≡ [] → taken_down (after_clock r l) ls ≡ []
rest_quiet r l ls quiet = (none_of (hears r l).arrived (taken_down (after_clock r l) ls) quiet).1

-- a read just after the first levels with which something may come, and what comes after
pub read_last : (l : Level) (rest : List Level) (r : ReceiverState) → r.unread ≡ [] → (ls : List Level) → taken_down r ls ≡ []
    → taken_down r (ls ++ l ∷ rest) ≡ option_to_list (result_ok (oldest (after_levels r (ls ++ l ∷ [])).unread)) ++ taken_down (after_read (after_levels r (ls ++ l ∷ []))) rest
read_last l rest r none [] quiet = read_now r none l rest
read_last l rest r none (x ∷ ls) quiet =
    ap {B = List Entry} (λ es. es ++ taken_down (after_clock r x) (ls ++ l ∷ rest)) (first_quiet r x ls quiet)
    ∙ read_last l rest (after_clock r x) (still_none r x none (first_quiet r x ls quiet)) ls (rest_quiet r x ls quiet)
