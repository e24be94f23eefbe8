-- The bits of a frame: how many there are, and which stand where.
use Rattle.std.proofs.Common.{◌≡◌, ℕ, zero, suc, ◌+◌, ◌*◌, ◌%◌, ◌^◌, ◌≤◌, Bool, true, false, if◌then◌else◌, List, [], ◌∷◌, ◌++◌, length, get_or, drop, replicate, sym, refl, ap, ◌∙◌, ap₂, append_assoc, le_of_suc-le-suc, not-suc-le-zero, arith, length-append, drop_at}
use lib.ListN.{length-replicate}
use Rattle.line.specs.declared.level.Level.{Level}
use Rattle.line.specs.declared.level.Level.TheVariants.{Space, Mark}
use Rattle.line.specs.declared.format.DataBits.{DataBits}
use Rattle.line.specs.declared.format.DataBits.TheVariants.{Seven, Eight}
use Rattle.line.specs.declared.format.Parity.{Parity}
use Rattle.line.specs.declared.format.Parity.TheVariants.{Absent, Odd, Even}
use Rattle.line.specs.declared.format.StopBits.{StopBits}
use Rattle.line.specs.declared.format.StopBits.TheVariants.{One, Two}
use Rattle.line.specs.declared.format.Format.{Format}
use Rattle.line.specs.Levels.{low_bits, number}
use Rattle.line.specs.Frames.{data_count, width, parity_count, stop_count, first_stop, frame_bits, parity_bits, frame}
use Rattle.line.specs.Formats.{Agree}
use Rattle.line.proofs.Digits.{low_length, number_low, number_append}

pub parity_length : (p : Parity) (bs : List Level) → length (parity_bits p bs) ≡ parity_count p
parity_length Absent bs = refl
parity_length Odd bs = refl
parity_length Even bs = refl

-- the bits through the first stop bit
abbrev pub through : Format → ℕ → List Level
through f c = let bs : List Level = low_bits (width f) c in
    Space ∷ (bs ++ (parity_bits f.parity bs ++ (Mark ∷ [])))

pub through_length : (f : Format) (c : ℕ) → length (through f c) ≡ 1 + first_stop f
through_length f c =
    let bs : List Level = low_bits (width f) c in
    let ps : List Level = parity_bits f.parity bs in
    omega (arith, length-append bs (ps ++ (Mark ∷ [])), length-append ps (Mark ∷ []), low_length (width f) c, parity_length f.parity bs)

pub frame_length : (f : Format) (c : ℕ) → length (frame f c) ≡ frame_bits f
frame_length f c =
    let bs : List Level = low_bits (width f) c in
    let ps : List Level = parity_bits f.parity bs in
    let ss : List Level = replicate (stop_count f.stops) Mark in
    omega (arith, length-append bs (ps ++ ss), length-append ps ss, low_length (width f) c, parity_length f.parity bs, length-replicate (stop_count f.stops) Mark)

pub width_most : (f : Format) → width f ≤ 9
width_most f = go f.size f.address
  where
    go : (d : DataBits) (a : Bool) → data_count d + (if a then 1 else 0) ≤ 9
    go Seven true = omega arith
    go Seven false = omega arith
    go Eight true = omega arith
    go Eight false = omega arith

pub width_least : (f : Format) → 7 ≤ width f
width_least f = go f.size
  where
    go : (d : DataBits) → 7 ≤ data_count d + (if f.address then 1 else 0)
    go Seven = omega arith
    go Eight = omega arith

pub parity_most : (p : Parity) → parity_count p ≤ 1
parity_most Absent = omega arith
parity_most Odd = omega arith
parity_most Even = omega arith

-- no format has more than twelve bits through its first stop bit
pub stop_most : (f : Format) → first_stop f ≤ 11
stop_most f = omega (arith, width_most f, parity_most f.parity)

pub stop_some : (p : StopBits) → (1 ≤ stop_count p) × (stop_count p ≤ 2)
stop_some One = omega arith
stop_some Two = omega arith

pub frame_fits : (f : Format) (c : ℕ) → length (frame f c) ≤ 13
frame_fits f c = omega (arith, frame_length f c, width_most f, parity_most f.parity, stop_some f.stops)

-- all but the stop bits
abbrev pub front : Format → ℕ → List Level
front f c = let bs : List Level = low_bits (width f) c in Space ∷ (bs ++ parity_bits f.parity bs)

pub front_length : (f : Format) (c : ℕ) → length (front f c) ≡ first_stop f
front_length f c =
    let bs : List Level = low_bits (width f) c in
    let ps : List Level = parity_bits f.parity bs in
    omega (arith, length-append bs ps, low_length (width f) c, parity_length f.parity bs)

pub frame_front : (f : Format) (c : ℕ) → frame f c ≡ front f c ++ replicate (stop_count f.stops) Mark
frame_front f c = ap {B = List Level} (λ l. Space ∷ l) (sym (append_assoc (low_bits (width f) c) (parity_bits f.parity (low_bits (width f) c)) (replicate (stop_count f.stops) Mark)))

pub through_front : (f : Format) (c : ℕ) → through f c ≡ front f c ++ (Mark ∷ [])
through_front f c = ap {B = List Level} (λ l. Space ∷ l) (sym (append_assoc (low_bits (width f) c) (parity_bits f.parity (low_bits (width f) c)) (Mark ∷ [])))

pub frame_stops : (f : Format) (c : ℕ) → drop (first_stop f) (frame f c) ≡ replicate (stop_count f.stops) Mark
frame_stops f c = rw (frame_front f c) (drop_at (front f c) (replicate (stop_count f.stops) Mark) (first_stop f) (front_length f c))

-- the frame has the bits that it has through the first stop bit
pub frame_through : (f : Format) (c k : ℕ) (d : Level) → k ≤ first_stop f → get_or (frame f c) k d ≡ get_or (through f c) k d
frame_through f c k d h =
    ap (λ (l : List Level). get_or l k d) (frame_front f c)
    ∙ same (front f c) f.stops k (omega (arith, front_length f c))
    ∙ ap (λ (l : List Level). get_or l k d) (sym (through_front f c))
  where
    same : (xs : List Level) (p : StopBits) (k : ℕ) → k ≤ length xs → get_or (xs ++ replicate (stop_count p) Mark) k d ≡ get_or (xs ++ (Mark ∷ [])) k d
    same [] One zero h = refl
    same [] Two zero h = refl
    same [] p (suc k) h = absurd (not-suc-le-zero h)
    same (x ∷ xs) p zero h = refl
    same (x ∷ xs) p (suc k) h = same xs p k (le_of_suc-le-suc h)

pub agree_first_stop : (f g : Format) → Agree f g → first_stop f ≡ first_stop g
agree_first_stop f g a = cc

pub agree_width : (f g : Format) → Agree f g → width f ≡ width g
agree_width f g a = cc

pub agree_through : (f g : Format) (c : ℕ) → Agree f g → through f c ≡ through g c
agree_through f g c a = cc

-- the frame as binary digits: the character, the parity bit above it, the stop bits above that
pub frame_number : (f : Format) (c : ℕ)
    → number (frame f c)
    ≡ 2 * (c % 2 ^ width f + 2 ^ width f
    * (number (parity_bits f.parity (low_bits (width f) c)) + 2 ^ parity_count f.parity * number (replicate (stop_count f.stops) Mark)))
frame_number f c =
    let bs : List Level = low_bits (width f) c in
    let ps : List Level = parity_bits f.parity bs in
    let ss : List Level = replicate (stop_count f.stops) Mark in
    ap (λ (n : ℕ). 2 * n) (number_append bs (ps ++ ss)
    ∙ ap₂ (λ (n m : ℕ). n + 2 ^ m * number (ps ++ ss)) (number_low (width f) c) (low_length (width f) c)
    ∙ ap (λ (n : ℕ). c % 2 ^ width f + 2 ^ width f * n) (number_append ps ss ∙ ap (λ (m : ℕ). number ps + 2 ^ m * number ss) (parity_length f.parity bs)))
