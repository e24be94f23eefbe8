-- How many clocks bits and frames take, and what is left of a frame after some of its bits.
use Rattle.std.proofs.Common.{◌≡◌, ℕ, suc, ◌+◌, ◌-◌, ◌*◌, ◌/◌, ◌%◌, ◌<◌, ◌≤◌, List, [], ◌∷◌, ◌++◌, map, length, get_or, take, drop, replicate, sym, refl, ap, ◌∙◌, ap₂, suc-mul, arith}
use lib.LanesLaws.{map-replicate}
use lib.ListN.{get_or-map}
use Rattle.std.specs.List.{sum_by}
use Rattle.std.proofs.lemmas.List.Sums.{sum_by-cons}
use Rattle.std.proofs.lemmas.List.{length-append, length-map, map-append, get_or-take, drop_more}
use Rattle.line.specs.declared.level.Level.{Level}
use Rattle.line.specs.declared.level.Level.TheVariants.{Mark}
use Rattle.line.specs.declared.format.Format.{Format}
use Rattle.line.specs.Levels.{byte_of, level_of, low_bits, number}
use Rattle.line.specs.Frames.{frame_bits, frame}
use Rattle.line.proofs.Digits.{low_number}
use Rattle.line.proofs.Bits.{frame_length, frame_fits}
use Rattle.ends.specs.declared.timing.Timing.{Timing}
use Rattle.ends.specs.Times.{sum, start_of, held}
use Rattle.ends.specs.Timed.{times_of}
use Rattle.ends.specs.Sender.{frames, frame_levels}
use Rattle.ends.specs.BareSender.{at_rest}
use Rattle.ends.proofs.Held.{held_length}
use Rattle.ends.proofs.Shifting.{held_none, sound_rest}
use Rattle.ends.proofs.Speaking.{Begun, frame_begun, frames_held, sends}
use Rattle.picture.specs.Drawing.{bytes, frame_clocks, drawn_frame, drawn, loaded, AsSent}

pub bits_most : (f : Format) → frame_bits f ≤ 13
bits_most f = omega (arith, frame_length f 0, frame_fits f 0)

-- the library adds from the left
pub same_sum : (ns : List ℕ) → sum_by (λ x. x) ns ≡ sum ns
same_sum [] = refl
same_sum (n ∷ ns) = sum_by-cons (λ x. x) n ns ∙ ap (λ (m : ℕ). n + m) (same_sum ns)

levels_length : (t : Timing) (c : ℕ) → length (held t.lengths (frame t.format c)) ≡ frame_clocks t
levels_length t c = held_length t.lengths (frame t.format c) ∙ ap (start_of t.lengths) (frame_length t.format c)

-- the frames of all characters are equally long
pub frame_size : (t : Timing) (c : ℕ) → length (drawn_frame t c) ≡ frame_clocks t
frame_size t c = length-map (held t.lengths (frame t.format c)) byte_of ∙ levels_length t c

pub drawn_size : (t : Timing) (cs : List ℕ) (n : ℕ) → n ≡ frame_clocks t → length (drawn t cs) ≡ length cs * n
drawn_size t cs n e = length-map (frames (at_rest t) cs) byte_of ∙ go cs ∙ ap (λ m. length cs * m) (sym e)
  where
    go : (cs : List ℕ) → length (frames (at_rest t) cs) ≡ length cs * frame_clocks t
    go [] = omega arith
    go (c ∷ cs) =
        omega (arith, length-append (held t.lengths (frame t.format c)) (frames (at_rest t) cs), levels_length t c, go cs, suc-mul (length cs) (frame_clocks t))

-- one character fewer to draw
pub next_frame : (t : Timing) (cs : List ℕ) (i : ℕ) → i < length cs → drawn t (drop i cs) ≡ drawn_frame t (get_or cs i 0) ++ drawn t (drop (i + 1) cs)
next_frame t cs i h =
    ap (drawn t) (drop_more cs i 0 h)
    ∙ map-append byte_of (held t.lengths (frame t.format (get_or cs i 0))) (frames (at_rest t) (drop (i + 1) cs))

-- the bits of a frame from bit k on, whose binary digits are d
abbrev pub from_bit : Timing → ℕ → ℕ → List ℕ
from_bit t k d = bytes (held (drop k t.lengths) (low_bits (frame_bits t.format - k) d))

pub from_start : (t : Timing) (c d : ℕ) → d ≡ number (frame t.format c) → from_bit t 0 d ≡ drawn_frame t c
from_start t c d e =
    let all : frame_bits t.format - 0 ≡ length (frame t.format c) = omega (arith, frame_length t.format c) in
    ap₂ {C = List ℕ} (λ n m. bytes (held t.lengths (low_bits n m))) all e
    ∙ ap (λ (l : List Level). bytes (held t.lengths l)) (low_number (frame t.format c))

module _ (t : Timing) (k : ℕ) (h : k < frame_bits t.format) where
  abbrev bits : ℕ
  bits = frame_bits t.format

  count : bits - k ≡ suc (bits - (k + 1))
  count = omega arith

  lengths_from : drop k t.lengths ≡ get_or t.lengths k 0 ∷ drop (k + 1) t.lengths
  lengths_from = drop_more t.lengths k 0 (omega (arith, t.thirteen, bits_most t.format))

  next_bit_at : (d : ℕ) → from_bit t k d ≡ replicate (get_or t.lengths k 0) (byte_of (level_of (d % 2))) ++ from_bit t (k + 1) (d / 2)
  next_bit_at d =
      let n = get_or t.lengths k 0 in
      let ls = held (drop (k + 1) t.lengths) (low_bits (bits - (k + 1)) (d / 2)) in
      ap₂ {C = List ℕ} (λ ns m. bytes (held ns (low_bits m d))) lengths_from count
      ∙ map-append byte_of (replicate n (level_of (d % 2))) ls
      ∙ ap (λ l. l ++ bytes ls) (map-replicate byte_of n (level_of (d % 2)))

  -- the length stands in the part of the table that the format uses
  pub next_bit : (d b : ℕ) {l : Level} → b ≡ bits → l ≡ level_of (d % 2)
      → from_bit t k d ≡ replicate (get_or (take b t.lengths) k 0) (byte_of l) ++ from_bit t (k + 1) (d / 2)
  next_bit d b {l} e is =
      next_bit_at d
      ∙ ap₂ (λ m v. replicate m (byte_of v) ++ from_bit t (k + 1) (d / 2)) (sym (get_or-take b t.lengths k 0 (omega arith))) (sym is)

pub past_last : (t : Timing) (k d : ℕ) → frame_bits t.format ≤ k → from_bit t k d ≡ []
past_last t k d h =
    let none : frame_bits t.format - k ≡ 0 = omega arith in
    ap {B = List ℕ} (λ m. bytes (held (drop k t.lengths) (low_bits m d))) none ∙ ap {A = List Level} (map byte_of) (held_none (drop k t.lengths))

begun : (t : Timing) (cs : List ℕ) (c : ℕ) → Begun (frame_levels (loaded (times_of t) cs) c)
begun t cs c = frame_begun (at_rest t) (sound_rest t) c

-- what is drawn is what a sender's clocks answer
pub as_sent : (t : Timing) (cs : List ℕ) → AsSent t cs
as_sent t cs k =
    ap byte_of ((sends (loaded (times_of t) cs) (begun t cs) k).level ∙ ap (λ (l : List Level). get_or l k Mark) (frames_held (at_rest t) [] cs cs))
    ∙ sym (get_or-map byte_of (frames (at_rest t) cs) k Mark)
