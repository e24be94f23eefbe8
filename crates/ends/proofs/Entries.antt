-- The entry of a frame, by the digits of its bits.
use Rattle.std.proofs.Common.{◌≡◌, ℕ, zero, suc, ◌+◌, ◌-◌, ◌*◌, ◌/◌, ◌%◌, ◌^◌, ◌<◌, Bool, true, if◌then◌else◌, ◌==◌, List, [], ◌∷◌, ◌++◌, length, take, drop, sym, refl, ap, ◌∙◌, ap₂, le_of_suc-le-suc, not-suc-le-zero, mod-eq_of_lt, arith, take_at, drop_at}
use Rattle.std.proofs.lemmas.Nat.{shr-shr}
use Rattle.std.proofs.lemmas.Bool.Decides.{nat_tests}
use Rattle.line.specs.declared.level.Level.{Level}
use Rattle.line.specs.declared.level.Level.TheVariants.{Space, Mark}
use Rattle.line.specs.declared.format.Format.{Format}
use Rattle.line.specs.Levels.{level_of, low_bits, number}
use Rattle.line.specs.Frames.{width, first_stop, parity_count, parity_bits}
use Rattle.line.proofs.Digits.{low_length, number_low, drop_low, take_low}
use Rattle.line.proofs.Bits.{parity_length, through, through_front, front, front_length}
use Rattle.ends.specs.Receiver.{Entry, entry_of, same_levels, framing_flag}

-- two lists of one length are the same levels where they are the same number
same_number : (xs ys : List Level) → length xs ≡ length ys → same_levels xs ys ≡ (number xs == number ys)
same_number [] [] e = refl
same_number [] (y ∷ ys) e = absurd (omega arith)
same_number (x ∷ xs) [] e = absurd (omega arith)
same_number (Space ∷ xs) (Space ∷ ys) e = let h : same_levels xs ys ≡ (number xs == number ys) = same_number xs ys (omega arith) in h ∙ doubled (number xs) (number ys)
  where
    doubled : (m n : ℕ) → (m == n) ≡ (2 * m == 2 * n)
    doubled m n = grind (arith, nat_tests)
same_number (Mark ∷ xs) (Mark ∷ ys) e = let h : same_levels xs ys ≡ (number xs == number ys) = same_number xs ys (omega arith) in h ∙ doubled (number xs) (number ys)
  where
    doubled : (m n : ℕ) → (m == n) ≡ (1 + 2 * m == 1 + 2 * n)
    doubled m n = grind (arith, nat_tests)
same_number (Space ∷ xs) (Mark ∷ ys) e = let m : ℕ = number xs in let n : ℕ = number ys in grind (arith, nat_tests)
same_number (Mark ∷ xs) (Space ∷ ys) e = let m : ℕ = number xs in let n : ℕ = number ys in grind (arith, nat_tests)

stop_flag : (x : ℕ) → x < 2 → framing_flag (level_of x ∷ []) ≡ (if x == 1 then 0 else 4)
stop_flag zero h = refl
stop_flag (suc zero) h = refl
stop_flag (suc (suc x)) h = absurd (not-suc-le-zero (le_of_suc-le-suc (le_of_suc-le-suc h)))

module _ (f : Format) (d : ℕ) where
  abbrev w : ℕ
  w = width f

  abbrev p : ℕ
  p = parity_count f.parity

  abbrev above : ℕ
  above = d / 2 / 2 ^ w

  split : (k n : ℕ) → 1 + first_stop f ≡ k + n → drop k (low_bits (1 + first_stop f) d) ≡ low_bits n (d / 2 ^ k)
  split k n e = ap {B = List Level} (λ m. drop k (low_bits m d)) e ∙ drop_low k n d

  body : take w (drop 1 (low_bits (1 + first_stop f) d)) ≡ low_bits w (d / 2)
  body =
      let e : first_stop f ≡ w + (1 + p) = omega arith in
      ap {B = List Level} (λ l. take w l) (split 1 (first_stop f) refl) ∙ ap {B = List Level} (λ m. take w (low_bits m (d / 2))) e ∙ take_low w (1 + p) (d / 2)

  check : take (first_stop f - (1 + w)) (drop (1 + w) (low_bits (1 + first_stop f) d)) ≡ low_bits p above
  check =
      let e : first_stop f - (1 + w) ≡ p = omega arith in
      let one : 1 + p ≡ p + 1 = omega arith in
      ap₂ {C = List Level} (λ m l. take m l) e (split (1 + w) (1 + p) (omega arith))
      ∙ ap₂ {C = List Level} (λ m c. take p (low_bits m c)) one (sym (shr-shr d 1 w))
      ∙ take_low p 1 above

  stop : drop (first_stop f) (low_bits (1 + first_stop f) d) ≡ level_of (above / 2 ^ p % 2) ∷ []
  stop =
      split (first_stop f) 1 (omega arith)
      ∙ ap {B = List Level} (λ c. level_of (c % 2) ∷ []) (sym (ap (λ (x : ℕ). x / 2 ^ p) (shr-shr d 1 w) ∙ shr-shr d (1 + w) p))

  abbrev made : List Level → List Level → List Level → Entry
  made b k r = (number b, (if same_levels k (parity_bits f.parity b) then 0 else 2) + framing_flag r)

  abbrev flagged : ℕ → Bool → ℕ → Entry
  flagged c same framing = (c, (if same then 0 else 2) + framing)

  pub entry_digits : entry_of f (low_bits (1 + first_stop f) d)
      ≡ (d / 2 % 2 ^ w, (if above % 2 ^ p == number (parity_bits f.parity (low_bits w (d / 2))) then 0 else 2) + (if above / 2 ^ p % 2 == 1 then 0 else 4))
  entry_digits =
      let bits : List Level = low_bits (1 + first_stop f) d in
      let ps : List Level = parity_bits f.parity (low_bits w (d / 2)) in
      let same : same_levels (low_bits p above) ps ≡ (above % 2 ^ p == number ps) =
      same_number (low_bits p above) ps (low_length p above ∙ sym (parity_length f.parity (low_bits w (d / 2)))) ∙ ap (λ (n : ℕ). n == number ps) (number_low p above) in
      ap (λ (b : List Level). made b (take (first_stop f - (1 + w)) (drop (1 + w) bits)) (drop (first_stop f) bits)) body
      ∙ ap₂ (λ (k r : List Level). made (low_bits w (d / 2)) k r) check stop
      ∙ ap₂ (λ (c : ℕ) (b : Bool). flagged c b (framing_flag (level_of (above / 2 ^ p % 2) ∷ []))) (number_low w (d / 2)) same
      ∙ ap (λ (n : ℕ). flagged (d / 2 % 2 ^ w) (above % 2 ^ p == number ps) n) (stop_flag (above / 2 ^ p % 2) (omega arith))

same_self : (bs : List Level) → same_levels bs bs ≡ true
same_self [] = refl
same_self (Space ∷ bs) = same_self bs
same_self (Mark ∷ bs) = same_self bs

low_character : (n c : ℕ) → c < 2 ^ n → number (low_bits n c) ≡ c
low_character n c h = number_low n c ∙ mod-eq_of_lt h

-- what a receiver makes of the bits of a frame
pub entry_is : (f : Format) (c : ℕ) → c < 2 ^ width f → entry_of f (through f c) ≡ (c, 0)
entry_is f c h =
    ap (λ (b : List Level). made b check rest) e1
    ∙ ap (λ (k : List Level). made bs k rest) (ap (λ (l : List Level). take (first_stop f - (1 + width f)) l) e2 ∙ e3)
    ∙ ap (λ (r : List Level). made bs ps r) e4
    ∙ ap₂ (λ (x : ℕ) (y : Bool). entry x y) (low_character (width f) c h) (same_self ps)
  where
    bs : List Level
    bs = low_bits (width f) c

    ps : List Level
    ps = parity_bits f.parity bs

    check : List Level
    check = take (first_stop f - (1 + width f)) (drop (1 + width f) (through f c))

    rest : List Level
    rest = drop (first_stop f) (through f c)

    entry : ℕ → Bool → Entry
    entry x y = (x, (if y then 0 else 2) + 0)

    made : List Level → List Level → List Level → Entry
    made b k r = (number b, (if same_levels k (parity_bits f.parity b) then 0 else 2) + framing_flag r)

    e1 : take (width f) (drop 1 (through f c)) ≡ bs
    e1 = take_at bs (ps ++ (Mark ∷ [])) (width f) (low_length (width f) c)

    e2 : drop (1 + width f) (through f c) ≡ ps ++ (Mark ∷ [])
    e2 = drop_at (Space ∷ bs) (ps ++ (Mark ∷ [])) (1 + width f) (omega (arith, low_length (width f) c))

    e3 : take (first_stop f - (1 + width f)) (ps ++ (Mark ∷ [])) ≡ ps
    e3 = take_at ps (Mark ∷ []) (first_stop f - (1 + width f)) (omega (arith, parity_length f.parity bs))

    e4 : drop (first_stop f) (through f c) ≡ Mark ∷ []
    e4 = ap (λ (l : List Level). drop (first_stop f) l) (through_front f c) ∙ drop_at (front f c) (Mark ∷ []) (first_stop f) (front_length f c)
