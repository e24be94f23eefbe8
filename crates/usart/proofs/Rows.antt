-- The look-up of a row, and tests that are computed over the whole table.
use Rattle.std.proofs.Common.{◌≡◌, ℕ, zero, suc, ◌<◌, ◌≤◌, Bool, true, false, not, ◌&&◌, T, nat_le, ◌==◌, List, [], ◌∷◌, length, get_or, Some, None, sym, refl, ap, ◌∙◌, subst, ⊎_elim, arith, eq-eqb, eqb-true}
use Rattle.std.proofs.lemmas.Bool.{and_from, and_parts, cond-true, cond-false, cases_Bool, leb-true}
use Rattle.usart.specs.declared.built.Row.{Row}
use Rattle.usart.specs.Table.{rows, blank, Has, lookup, Distinct, InRange}

abbrev same : Row → ℕ → ℕ → Bool
same r c b = r.clock == c && r.baud == b

has_same : (r : Row) (c b : ℕ) → Has r c b → same r c b ≡ true
has_same r c b h = and_from _ _ (eq-eqb _ _ h.0) (eq-eqb _ _ h.1)

-- what the look-up answers holds of a row of the list
pub record Among (rs : List Row) (r : Row) (c b : ℕ) : Type 0 where
  pub place : ℕ
  pub within : place < length rs
  pub is : get_or rs place blank ≡ r
  pub has : Has r c b

pub among : (rs : List Row) (c b : ℕ) (r : Row) → lookup rs c b ≡ Some r → Among rs r c b
among [] c b r e = cc
among (x ∷ rs) c b r e = ⊎_elim
    (λ (t : same x c b ≡ true).
    let p = and_parts (x.clock == c) (x.baud == b) t in
    let here : Some x ≡ Some r = sym (cond-true (same x c b) _ _ t) ∙ e in
    let is : x ≡ r = cc in
    record { place = 0; within = omega arith; is = is; has = subst (λ (y : Row). Has y c b) is (eqb-true _ _ p.0, eqb-true _ _ p.1) })
    (λ (t : same x c b ≡ false).
    let a = among rs c b r (sym (cond-false (same x c b) _ _ t) ∙ e) in
    record { place = suc a.place; within = omega (arith, a.within); is = a.is; has = a.has })
    (cases_Bool (same x c b))

-- where a row has the two, one is found
pub some_found : (rs : List Row) (c b k : ℕ) → k < length rs → Has (get_or rs k blank) c b → lookup rs c b ≡ None → ⊥
some_found [] c b k l h e = omega arith
some_found (x ∷ rs) c b zero l h e = let z : Some x ≡ None = sym (cond-true (same x c b) _ _ (has_same x c b h)) ∙ e in cc
some_found (x ∷ rs) c b (suc k) l h e = ⊎_elim
    (λ (t : same x c b ≡ true). let z : Some x ≡ None = sym (cond-true (same x c b) _ _ t) ∙ e in cc)
    (λ (t : same x c b ≡ false). some_found rs c b k (omega arith) h (sym (cond-false (same x c b) _ _ t) ∙ e))
    (cases_Bool (same x c b))

-- no later row has a row's clock and baud rate
abbrev none_like : Row → List Row → Bool
none_like x [] = true
none_like x (y ∷ ys) = not (same x y.clock y.baud) && none_like x ys

abbrev all_distinct : List Row → Bool
all_distinct [] = true
all_distinct (x ∷ xs) = none_like x xs && all_distinct xs

none_like_at : (x : Row) (ys : List Row) → none_like x ys ≡ true → (k : ℕ) → k < length ys → Has x (get_or ys k blank).clock (get_or ys k blank).baud → ⊥
none_like_at x [] t k l h = omega arith
none_like_at x (y ∷ ys) t zero l h =
    let p = and_parts (not (same x y.clock y.baud)) (none_like x ys) t in
    let no : not (same x y.clock y.baud) ≡ false = ap not (has_same x y.clock y.baud h) in
    subst T (sym p.0 ∙ no) tt
none_like_at x (y ∷ ys) t (suc k) l h = none_like_at x ys (and_parts (not (same x y.clock y.baud)) (none_like x ys) t).1 k (omega arith) h

distinct_from : (rs : List Row) → all_distinct rs ≡ true → (i j : ℕ) → i < length rs → j < length rs
    → Has (get_or rs i blank) (get_or rs j blank).clock (get_or rs j blank).baud → i ≡ j
distinct_from [] t i j li lj h = absurd (omega arith)
distinct_from (x ∷ xs) t zero zero li lj h = refl
distinct_from (x ∷ xs) t zero (suc j) li lj h = absurd (none_like_at x xs (and_parts (none_like x xs) (all_distinct xs) t).0 j (omega arith) h)
distinct_from (x ∷ xs) t (suc i) zero li lj h =
    absurd (none_like_at x xs (and_parts (none_like x xs) (all_distinct xs) t).0 i (omega arith) (sym h.0, sym h.1))
distinct_from (x ∷ xs) t (suc i) (suc j) li lj h = ap suc (distinct_from xs (and_parts (none_like x xs) (all_distinct xs) t).1 i j (omega arith) (omega arith) h)

pub distinct : Distinct
unfolding rows
distinct i j li lj h = distinct_from rows refl i j li lj h

abbrev all_in_range : List Row → Bool
all_in_range [] = true
all_in_range (x ∷ xs) = nat_le 3 x.divider && (nat_le x.divider 65535 && (nat_le x.modulator 255 && all_in_range xs))

in_range_from : (rs : List Row) → all_in_range rs ≡ true → (k : ℕ) → k < length rs
    → (3 ≤ (get_or rs k blank).divider) × ((get_or rs k blank).divider ≤ 65535) × ((get_or rs k blank).modulator ≤ 255)
in_range_from [] t k l = absurd (omega arith)
in_range_from (x ∷ xs) t zero l =
    let a = and_parts (nat_le 3 x.divider) (nat_le x.divider 65535 && (nat_le x.modulator 255 && all_in_range xs)) t in
    let b = and_parts (nat_le x.divider 65535) (nat_le x.modulator 255 && all_in_range xs) a.1 in
    let c = and_parts (nat_le x.modulator 255) (all_in_range xs) b.1 in
    (leb-true _ _ a.0, leb-true _ _ b.0, leb-true _ _ c.0)
in_range_from (x ∷ xs) t (suc k) l =
    let a = and_parts (nat_le 3 x.divider) (nat_le x.divider 65535 && (nat_le x.modulator 255 && all_in_range xs)) t in
    let b = and_parts (nat_le x.divider 65535) (nat_le x.modulator 255 && all_in_range xs) a.1 in
    let c = and_parts (nat_le x.modulator 255) (all_in_range xs) b.1 in
    in_range_from xs c.1 k (omega arith)

pub in_range : InRange
unfolding rows
in_range k l = in_range_from rows refl k l

pub rows_length : length rows ≡ 22
unfolding rows
rows_length = refl

-- the row that was found is the one that has the two
pub the_row : (c b : ℕ) (r : Row) → lookup rows c b ≡ Some r → (k : ℕ) → k < 22 → Has (get_or rows k blank) c b → r ≡ get_or rows k blank
the_row c b r e k l h =
    let a = among rows c b r e in
    let clocks : r.clock ≡ (get_or rows a.place blank).clock = ap (λ (x : Row). x.clock) (sym a.is) in
    let bauds : r.baud ≡ (get_or rows a.place blank).baud = ap (λ (x : Row). x.baud) (sym a.is) in
    let at : k ≡ a.place = distinct k a.place l (omega (arith, a.within, rows_length)) (h.0 ∙ sym a.has.0 ∙ clocks, h.1 ∙ sym a.has.1 ∙ bauds) in
    sym (ap (λ (j : ℕ). get_or rows j blank) at ∙ a.is)

-- the settings of the row that was found are in range
pub least : (c b : ℕ) (r : Row) → lookup rows c b ≡ Some r → 3 ≤ r.divider
least c b r e =
    let a = among rows c b r e in
    let divider : r.divider ≡ (get_or rows a.place blank).divider = ap (λ (x : Row). x.divider) (sym a.is) in
    omega (arith, divider, (in_range a.place (omega (arith, a.within, rows_length))).0)

-- some row has the two, where one was found
pub one_has : (c b : ℕ) (r : Row) → lookup rows c b ≡ Some r → ((k : ℕ) → k < 22 → Has (get_or rows k blank) c b → ⊥) → ⊥
one_has c b r e none =
    let a = among rows c b r e in
    none a.place (omega (arith, a.within, rows_length)) (subst (λ (x : Row). Has x c b) (sym a.is) a.has)
