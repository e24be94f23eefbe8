-- How far the outer samples of a bit lie from the middle one.
use Rattle.std.proofs.Common.{◌≡◌, ℕ, zero, suc, ◌+◌, ◌/◌, ◌^◌, ◌<◌, ◌≤◌, max, sym, refl, ap, ◌∙◌, ⊎_elim, add-one, arith, pow_mono}
use Rattle.std.proofs.lemmas.Bool.{cases_lt, le-leb, lt-leb, cond-true, cond-false}
use Rattle.usart.specs.Usart.{power_within, distance, Spaced, Lasting}

-- the power that `power_within` finds is the largest of all
found : (top n : ℕ) → 1 ≤ n → n < 2 ^ suc top → (k : ℕ) × (2 ^ k ≤ n) × (n < 2 ^ suc k) × (power_within top n ≡ 2 ^ k)
unfolding power_within
found zero n p l = (0, p, l, refl)
found (suc top) n p l =
    ⊎_elim
    (λ h. let r = found top n p h in (r.0, r.1, r.2, cond-false _ _ _ (lt-leb _ _ h) ∙ r.3))
    (λ h. (suc top, h, l, cond-true _ _ _ (le-leb _ _ h)))
    (cases_lt n (2 ^ suc top))

pub spaced : (n : ℕ) → 1 ≤ n → n ≤ 65536 → Spaced n (distance n)
spaced n p m =
    let f = found 16 n p (omega arith) in
    (f.0, f.1, rw add-one f.2, ap (λ power. max 1 (power / 32)) f.3)

smaller : (i k : ℕ) → 2 ^ i < 2 ^ k → i < k
smaller i k h = ⊎_elim (λ l. l) (λ l. let m : 2 ^ k ≤ 2 ^ i = pow_mono l in absurd (omega arith)) (cases_lt i k)

-- there is one such distance
pub distance_is : (n x : ℕ) → Lasting n → Spaced n x → x ≡ distance n
distance_is n x l s =
    let t = spaced n (omega (arith, l.0)) l.1 in
    let above : s.0 < t.0 + 1 = smaller s.0 (t.0 + 1) (omega (arith, s.1, t.2)) in
    let below : t.0 < s.0 + 1 = smaller t.0 (s.0 + 1) (omega (arith, t.1, s.2)) in
    let same : s.0 ≡ t.0 = omega arith in
    s.3 ∙ ap (λ k. max 1 (2 ^ k / 32)) same ∙ sym t.3

-- a bit of three clocks or more has room for its samples
pub close : (n : ℕ) → Lasting n → (distance n ≤ n / 2) × (n / 2 + distance n < n)
close n l = let s = spaced n (omega arith) l.1 in (omega arith, omega arith)
