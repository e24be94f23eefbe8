-- A clock in a frame: the frame ends, is dropped, or goes on.
use Rattle.std.proofs.Common.{◌≡◌, ℕ, zero, suc, ◌+◌, ◌<◌, ◌≤◌, List, [], ◌∷◌, length, replicate, sym, refl, ap, ◌∙◌, arith}
use lib.ListN.{length-replicate}
use Rattle.std.proofs.lemmas.Bool.{le-leb, lt-leb}
use Rattle.line.specs.declared.level.Level.{Level}
use Rattle.line.specs.declared.level.Level.TheVariants.{Space}
use Rattle.line.specs.declared.format.Format.{Format}
use Rattle.line.specs.Frames.{first_stop}
use Rattle.line.specs.Levels.{low_bits, number}
use Rattle.line.proofs.Digits.{low_number}
use Rattle.line.proofs.Bits.{width_least}
use Rattle.ends.specs.Times.{samples_per_frame}
use Rattle.ends.specs.Receiver.{Entry, Heard, heard_in_frame, entry_of, after_frame, decided, nothing, going_on, framing}
use Rattle.ends.proofs.Sampling.{decided_length}

all_decided : (f : Format) (ls : List Level) → length ls ≡ samples_per_frame f → length (decided ls) ≡ 1 + first_stop f
all_decided f ls e = omega (arith, e, decided_length ls)

pub frame_over : (f : Format) (n : ℕ) (ls : List Level) → length ls ≡ samples_per_frame f
    → heard_in_frame f n ls ≡ record { doing = after_frame (entry_of f (decided ls)); arrived = entry_of f (decided ls) ∷ [] }
frame_over f n ls e = rw (le-leb (1 + first_stop f) (length (decided ls)) (omega (arith, all_decided f ls e)))

pub frame_unended : (f : Format) (n : ℕ) (ls : List Level) → length ls < samples_per_frame f → heard_in_frame f n ls ≡ nothing (going_on (decided ls) n ls)
frame_unended f n ls h = rw (lt-leb (1 + first_stop f) (length (decided ls)) (omega (arith, h, decided_length ls)))

pub few_decided : (ls : List Level) → length ls < 3 → decided ls ≡ []
few_decided [] h = refl
few_decided (a ∷ []) h = refl
few_decided (a ∷ (b ∷ [])) h = refl
few_decided (a ∷ (b ∷ (c ∷ ls))) h = absurd (omega arith)

-- the entry that is made of the digits of the bits
pub over_by_digits : (f : Format) (n : ℕ) (ls : List Level) (e : Entry) (d : ℕ) → length ls ≡ samples_per_frame f → d ≡ number (decided ls)
    → e ≡ entry_of f (low_bits (1 + first_stop f) d)
    → record { doing = after_frame e; arrived = e ∷ [] } ≡ heard_in_frame f n ls
over_by_digits f n ls e d all digits is =
    let bits : low_bits (1 + first_stop f) d ≡ decided ls =
    ap {B = List Level} (λ m. low_bits m d) (sym (all_decided f ls all)) ∙ ap {B = List Level} (λ x. low_bits (length (decided ls)) x) digits ∙ low_number (decided ls) in
    ap {B = Heard} (λ x. record { doing = after_frame x; arrived = x ∷ [] }) (is ∙ ap (λ (l : List Level). entry_of f l) bits) ∙ sym (frame_over f n ls all)

-- a frame whose samples so far are at most the start bit's, all space, goes on
pub starts : (f : Format) (m : ℕ) → m ≤ 3 → heard_in_frame f 0 (replicate m Space) ≡ nothing (framing 0 (replicate m Space))
starts f m h =
    frame_unended f 0 (replicate m Space) (omega (arith, h, length-replicate m Space, width_least f)) ∙ going m h
  where
    going : (m : ℕ) → m ≤ 3 → nothing (going_on (decided (replicate m Space)) 0 (replicate m Space)) ≡ nothing (framing 0 (replicate m Space))
    going zero h = refl
    going (suc zero) h = refl
    going (suc (suc zero)) h = refl
    going (suc (suc (suc zero))) h = refl
    going (suc (suc (suc (suc m)))) h = absurd (omega arith)
