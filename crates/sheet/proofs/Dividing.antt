-- Rounding finds the nearest multiple.
use Rattle.std.proofs.Common.{◌≡◌, ℕ, suc, ◌+◌, ◌*◌, ◌/◌, ◌<◌, ◌≤◌, ap, ⊎_elim, mod-lt, mul-le-mul_left, mul-suc, arith}
use native.Mathlib.Nat.{div-add-mod}
use Rattle.std.proofs.lemmas.Bool.{cases_lt}
use Rattle.sheet.specs.Divider.{apart, rounded}

-- u × d lies within half of u of h, so no other multiple of u lies nearer
nearer : (h u d other : ℕ) → 2 * (u * d) ≤ 2 * h + u → 2 * h ≤ 2 * (u * d) + u → apart (u * d) h ≤ apart (u * other) h
nearer h u d other low high = ⊎_elim
    (λ (less : other < d). let m : u * suc other ≤ u * d = mul-le-mul_left u less in omega (arith, m, mul-suc u other))
    (λ (more : d ≤ other). ⊎_elim
    (λ (past : d < other). let m : u * suc d ≤ u * other = mul-le-mul_left u past in omega (arith, m, mul-suc u d))
    (λ (here : other ≤ d). let same : other ≡ d = omega arith in omega (arith, ap (λ (n : ℕ). u * n) same))
    (cases_lt d other))
    (cases_lt other d)

pub rounds : (h u : ℕ) → (u ≡ 0 → ⊥) → (other : ℕ) → apart (u * rounded h u) h ≤ apart (u * other) h
rounds h u some other =
    let n : ℕ = h + u / 2 in
    let whole = div-add-mod n u in
    let part = mod-lt n (let x : 0 < u = ⊎_elim (λ (l : 0 < u). l) (λ (l : u ≤ 0). absurd (some (omega arith))) (cases_lt 0 u) in x) in
    nearer h u (n / u) other (omega (arith, whole, part)) (omega (arith, whole, part))
