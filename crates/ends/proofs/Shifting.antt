-- A clock of a shift register takes the first of its levels.
use Rattle.std.proofs.Common.{◌≡◌, ℕ, suc, ◌+◌, ◌-◌, ◌*◌, ◌/◌, ◌%◌, ◌<◌, ◌≤◌, true, false, List, [], ◌∷◌, ◌++◌, length, get_or, drop, replicate, is_some, Some, None, Option, sym, refl, ap, ◌∙◌, subst, ap₂, arith}
use Rattle.std.proofs.lemmas.List.{drop_more}
use Rattle.line.specs.declared.level.Level.{Level}
use Rattle.line.specs.declared.level.Level.TheVariants.{Space}
use Rattle.line.specs.declared.format.Format.{Format}
use Rattle.line.specs.Levels.{level_of, low_bits, number}
use Rattle.line.specs.Frames.{frame_bits, frame}
use Rattle.line.proofs.Digits.{low_number}
use Rattle.line.proofs.Bits.{frame_length}
use Rattle.ends.specs.declared.timing.Timing.{Timing}
use Rattle.ends.specs.declared.shift.Shift.{Shift}
use Rattle.ends.specs.Times.{held}
use Rattle.ends.specs.Shifts.{shift_levels, left_of, clocks_of}
use Rattle.ends.specs.Sender.{SenderState, SoundSender, empty, holding, ready}
use Rattle.ends.specs.BareSender.{at_rest}

abbrev register : ℕ → ℕ → ℕ → Shift
register d k n = record { digits = d; bit = k; clocks = n }

first_held : (n : ℕ) (l : Level) (ls : List Level) → 0 < n → replicate n l ++ ls ≡ l ∷ (replicate (n - 1) l ++ ls)
first_held n l ls h = let e : n ≡ suc (n - 1) = omega arith in ap {B = List Level} (λ m. replicate m l ++ ls) e

pub held_none : (ns : List ℕ) → held ns [] ≡ []
held_none [] = refl
held_none (n ∷ ns) = refl

-- the bit goes on
pub same_bit : (f : Format) (lengths : List ℕ) (d k n : ℕ) → 0 < n
    → shift_levels f lengths (register d k n) ≡ level_of (d % 2) ∷ shift_levels f lengths (register d k (n - 1))
same_bit f lengths d k n h = first_held n (level_of (d % 2)) (held (drop (k + 1) lengths) (low_bits (frame_bits f - (k + 1)) (d / 2))) h

-- a bit that is over, before the frame's last
module _ (f : Format) (lengths : List ℕ) (d k n : ℕ) (some : 0 < n) (over : n ≤ 1) where
  abbrev above : List Level
  above = held (drop (k + 1) lengths) (low_bits (frame_bits f - (k + 1)) (d / 2))

  one_clock : shift_levels f lengths (register d k n) ≡ level_of (d % 2) ∷ above
  one_clock = ap (λ (m : ℕ). replicate m (level_of (d % 2)) ++ above) (one n some over)
    where
      one : (n : ℕ) → 0 < n → n ≤ 1 → n ≡ 1
      one n a b = omega arith

  pub next_bit : k + 1 < frame_bits f → k + 1 < length lengths
      → shift_levels f lengths (register d k n) ≡ level_of (d % 2) ∷ shift_levels f lengths (register (d / 2) (k + 1) (get_or lengths (k + 1) 0))
  next_bit more within = one_clock
      ∙ ap₂ {C = List Level} (λ ls m. level_of (d % 2) ∷ held ls (low_bits m (d / 2))) (drop_more lengths (k + 1) 0 within) (count (frame_bits f) more)
    where
      count : (b : ℕ) → k + 1 < b → b - (k + 1) ≡ suc (b - (k + 1 + 1))
      count b h = omega arith

  pub no_bit : k + 1 ≡ frame_bits f → shift_levels f lengths (register d k n) ≡ level_of (d % 2) ∷ []
  no_bit last = one_clock
      ∙ ap {B = List Level} (λ m. level_of (d % 2) ∷ held (drop (k + 1) lengths) (low_bits m (d / 2))) (none (frame_bits f) last)
      ∙ ap {B = List Level} (λ ls. level_of (d % 2) ∷ ls) (held_none (drop (k + 1) lengths))
    where
      none : (b : ℕ) → k + 1 ≡ b → b - (k + 1) ≡ 0
      none b h = omega arith

pub whole_frame : (f : Format) (lengths : List ℕ) (c n : ℕ) → length lengths ≡ 13 → n ≡ get_or lengths 0 0
    → shift_levels f lengths (register (number (frame f c)) 0 n) ≡ held lengths (frame f c)
whole_frame f lengths c n size first = from_start (drop 1 (frame f c)) (omega (arith, frame_length f c))
  where
    starts : (rest : List Level) → (2 * number rest % 2 ≡ 0) × (2 * number rest / 2 ≡ number rest)
    starts rest = (omega arith, omega arith)

    from_start : (rest : List Level) → frame_bits f - 1 ≡ length rest
        → shift_levels f lengths (register (2 * number rest) 0 n) ≡ held lengths (Space ∷ rest)
    from_start rest e =
        ap₂ {C = List Level} (λ x y. replicate n (level_of x) ++ held (drop 1 lengths) (low_bits (frame_bits f - 1) y)) (starts rest).0 (starts rest).1
        ∙ ap₂ {C = List Level} (λ m x. replicate x Space ++ held (drop 1 lengths) (low_bits m (number rest))) e first
        ∙ ap {B = List Level} (λ l. replicate (get_or lengths 0 0) Space ++ held (drop 1 lengths) l) (low_number rest)
        ∙ ap {B = List Level} (λ l. held l (Space ∷ rest)) (sym (drop_more lengths 0 0 (omega arith)))

-- a frame on the line stays there
pub goes_on : (s : SenderState) (f : Format) (lengths : List ℕ) (o : Option Shift) (w : List ℕ) → is_some o ≡ true → 0 < clocks_of o
    → holding s (left_of f lengths o) w ≡ ready s (left_of f lengths o) w
goes_on s f lengths None w some h = cc
goes_on s f lengths (Some x) w some h =
    subst (λ (l : List Level). holding s l w ≡ ready s l w) (sym (same_bit f lengths x.digits x.bit x.clocks h)) refl

-- a shift register in use has levels left
pub something_left : (f : Format) (lengths : List ℕ) (o : Option Shift) → is_some o ≡ true → 0 < clocks_of o → empty (left_of f lengths o) ≡ false
something_left f lengths None some h = cc
something_left f lengths (Some y) some h = ap empty (same_bit f lengths y.digits y.bit y.clocks h)

-- a bare sender that has nothing to send is in range
pub sound_rest : (t : Timing) → SoundSender (at_rest t)
sound_rest t = record {
  thirteen = t.thirteen;
  lasting = t.lasting;
  short = t.short;
  room = omega arith;
  few = omega arith;
  narrow = λ i h. absurd (omega arith);
}
