-- Lists of levels as binary numbers.
use Rattle.std.proofs.Common.{◌≡◌, ℕ, zero, suc, ◌+◌, ◌*◌, ◌/◌, ◌%◌, ◌^◌, ◌<◌, List, [], ◌∷◌, ◌++◌, length, take, drop, sym, refl, ap, ◌∙◌, ap₂, le_of_suc-le-suc, not-suc-le-zero, mul_assoc, mul_comm, pow-suc, arith, pow_pos}
use lib.Arith.{mod-mul}
use lib.Count.{ones, ones_step}
use Rattle.std.proofs.lemmas.Nat.{shr-shr}
use Rattle.line.specs.declared.level.Level.{Level}
use Rattle.line.specs.declared.level.Level.TheVariants.{Space, Mark}
use Rattle.line.specs.Levels.{level_of, low_bits, number, marks}

pub low_length : (n c : ℕ) → length (low_bits n c) ≡ n
low_length zero c = refl
low_length (suc n) c = ap suc (low_length n (c / 2))

pub number_level : (b : ℕ) (bs : List Level) → b < 2 → number (level_of b ∷ bs) ≡ b + 2 * number bs
number_level zero bs h = omega arith
number_level (suc zero) bs h = refl
number_level (suc (suc b)) bs h = absurd (not-suc-le-zero (le_of_suc-le-suc (le_of_suc-le-suc h)))

marks_level : (b : ℕ) (bs : List Level) → b < 2 → marks (level_of b ∷ bs) ≡ b + marks bs
marks_level zero bs h = omega arith
marks_level (suc zero) bs h = refl
marks_level (suc (suc b)) bs h = absurd (not-suc-le-zero (le_of_suc-le-suc (le_of_suc-le-suc h)))

-- one digit more of a remainder
mod_more : (n c : ℕ) → c % 2 ^ suc n ≡ c % 2 + 2 * (c / 2 % 2 ^ n)
mod_more n c =
    ap (λ (m : ℕ). c % m) (pow-suc 2 n) ∙ mod-mul c (pow_pos n) (omega arith) ∙ omega arith

doubled : (n y : ℕ) → 2 ^ suc n * y ≡ 2 * (2 ^ n * y)
doubled n y = ap (λ (q : ℕ). q * y) (pow-suc 2 n ∙ mul_comm (2 ^ n) 2) ∙ mul_assoc 2 (2 ^ n) y

pub number_low : (n c : ℕ) → number (low_bits n c) ≡ c % 2 ^ n
number_low zero c = omega arith
number_low (suc n) c =
    number_level (c % 2) (low_bits n (c / 2)) (omega arith) ∙ ap (λ (m : ℕ). c % 2 + 2 * m) (number_low n (c / 2)) ∙ sym (mod_more n c)

pub marks_low : (n c : ℕ) → marks (low_bits n c) ≡ ones (c % 2 ^ n)
unfolding ones
marks_low zero c = let e : ◌≡◌ {A = ℕ} 0 (c % 1) = omega arith in ap ones e
marks_low (suc n) c =
    let m : ℕ = c % 2 ^ suc n in
    let e : m ≡ c % 2 + 2 * (c / 2 % 2 ^ n) = mod_more n c in
    marks_level (c % 2) (low_bits n (c / 2)) (omega arith) ∙ ap (λ (k : ℕ). c % 2 + k) (marks_low n (c / 2))
    ∙ ap₂ (λ (j k : ℕ). j + ones k) (omega (arith, e)) (omega (arith, e)) ∙ sym (ones_step m)

-- the marks of a character are the ones of its lowest digits
pub marks_of : (w c values : ℕ) → values ≡ 2 ^ w → ones (c % values) ≡ marks (low_bits w c)
marks_of w c values e = ap (λ (n : ℕ). ones (c % n)) e ∙ sym (marks_low w c)

-- the digits of ys stand above those of xs
pub number_append : (xs ys : List Level) → number (xs ++ ys) ≡ number xs + 2 ^ length xs * number ys
number_append [] ys = omega arith
number_append (Space ∷ xs) ys = let h = number_append xs ys in omega (arith, doubled (length xs) (number ys))
number_append (Mark ∷ xs) ys = let h = number_append xs ys in omega (arith, doubled (length xs) (number ys))

pub digit_number : (b : ℕ) → b < 2 → b ≡ number (level_of b ∷ [])
digit_number b h = sym (number_level b [] h ∙ omega arith)

-- the lowest digit, and those above it
digit : (b n m k : ℕ) → m % 2 ≡ b → m / 2 ≡ n → low_bits (suc k) m ≡ level_of b ∷ low_bits k n
digit b n m k low high = ap₂ {C = List Level} (λ d m. level_of d ∷ low_bits k m) low high

pub low_number : (bs : List Level) → low_bits (length bs) (number bs) ≡ bs
low_number [] = refl
low_number (Space ∷ bs) = let n : ℕ = number bs in
    digit 0 n (2 * n) (length bs) (omega arith) (omega arith) ∙ ap {B = List Level} (λ l. Space ∷ l) (low_number bs)
low_number (Mark ∷ bs) = let n : ℕ = number bs in
    digit 1 n (1 + 2 * n) (length bs) (omega arith) (omega arith) ∙ ap {B = List Level} (λ l. Mark ∷ l) (low_number bs)

pub drop_low : (k n c : ℕ) → drop k (low_bits (k + n) c) ≡ low_bits n (c / 2 ^ k)
drop_low zero n c = ap₂ {C = List Level} (λ m d. low_bits m d) (plain n) (whole c)
  where
    plain : (n : ℕ) → 0 + n ≡ n
    plain n = omega arith

    whole : (c : ℕ) → c ≡ c / 1
    whole c = omega arith
drop_low (suc k) n c =
    let more : suc k + n ≡ suc (k + n) = omega arith in
    let halves : c / 2 / 2 ^ k ≡ c / 2 ^ suc k = shr-shr c 1 k ∙ ap (λ (m : ℕ). c / 2 ^ m) (one k) in
    ap {B = List Level} (λ m. drop (suc k) (low_bits m c)) more ∙ drop_low k n (c / 2) ∙ ap {B = List Level} (λ d. low_bits n d) halves
  where
    one : (k : ℕ) → 1 + k ≡ suc k
    one k = omega arith

pub take_low : (k n c : ℕ) → take k (low_bits (k + n) c) ≡ low_bits k c
take_low zero n c = refl
take_low (suc k) n c =
    let more : suc k + n ≡ suc (k + n) = omega arith in
    ap {B = List Level} (λ m. take (suc k) (low_bits m c)) more ∙ ap {B = List Level} (λ l. level_of (c % 2) ∷ l) (take_low k n (c / 2))

-- digits above the lowest n do not count
pub low_mod : (n c : ℕ) → low_bits n (c % 2 ^ n) ≡ low_bits n c
low_mod n c =
    sym (ap₂ {C = List Level} (λ m d. low_bits m d) (low_length n c) (number_low n c)) ∙ low_number (low_bits n c)
