-- The items of a ring when one joins and when the oldest leaves.
use Rattle.std.specs.Prelude.{◌≡◌, ℕ, ◌+◌, ◌-◌, ◌%◌, ◌<◌, ◌≤◌, ◌≢◌, List, [], ◌∷◌, ◌++◌, length, get_or, take, drop, set, slice_index_or, slice_set}
use Rattle.std.proofs.Common.{sym, ap, ◌∙◌, ⊎_elim, arith}
use Rattle.std.proofs.lemmas.List.{length-append, length-drop, length-set, length-take-le, get_or-take, get_or-drop, get_or_append_left, get_or-append_right, get_or-set_same, get_or-set_other, take_more, drop_more, same_lists}
use Rattle.std.proofs.lemmas.Bool.{cases_lt}
use Rattle.queue.specs.declared.ring.Ring.TheInside.{Inside}
use Rattle.queue.specs.Rings.{items, InRange}

-- n items from place f on
abbrev pub from_place : {A : Type 0} → List A → ℕ → ℕ → List A
from_place xs f n = take n (drop f (xs ++ xs))

module _ {A : Type 0} (xs : List A) (f n : ℕ) (size : length xs ≡ 16) (inside : f < 16) where
  pub rest_length : length (drop f (xs ++ xs)) ≡ 32 - f
  rest_length = omega (arith, length-drop f (xs ++ xs), length-append xs xs)

  pub items_length : n ≤ 16 → length (from_place xs f n) ≡ n
  items_length few = length-take-le n (drop f (xs ++ xs)) (omega (arith, rest_length))

pub count_is : {A : Type 0} (r : Inside A) → InRange r → length (items r) ≡ r.count
count_is r ok = items_length r.places r.first r.count ok.sixteen ok.inside ok.few

pub few_items : {A : Type 0} (r : Inside A) → InRange r → length (items r) ≤ 16
few_items r ok = omega (arith, count_is r ok, ok.few)

twice : {A : Type 0} (xs : List A) (j : ℕ) (d : A) → length xs ≡ 16 → j < 32 → slice_index_or (xs ++ xs) j d ≡ slice_index_or xs (j % 16) d
twice xs j d size h = ⊎_elim
    (λ (l : j < 16). get_or_append_left xs xs d j (omega arith) ∙ ap (λ k. get_or xs k d) (low j l))
    (λ (l : 16 ≤ j). get_or-append_right xs xs 16 j d size l ∙ ap (λ k. get_or xs k d) (high j l h))
    (cases_lt j 16)
  where
    low : (j : ℕ) → j < 16 → j ≡ j % 16
    low j l = omega arith

    high : (j : ℕ) → 16 ≤ j → j < 32 → j - 16 ≡ j % 16
    high j l h = omega arith

module _ {A : Type 0} (xs : List A) (f n : ℕ) (size : length xs ≡ 16) (inside : f < 16) where
  item : (i : ℕ) (d : A) → i < 16 → slice_index_or (drop f (xs ++ xs)) i d ≡ slice_index_or xs ((f + i) % 16) d
  item i d h = get_or-drop f (xs ++ xs) i d ∙ twice xs (f + i) d size (omega arith)

pub oldest_item : {A : Type 0} (xs : List A) (f n : ℕ) (size : length xs ≡ 16) (inside : f < 16) (d : A) → 0 < n → n ≤ 16
    → from_place xs f n ≡ slice_index_or xs f d ∷ drop 1 (from_place xs f n)
oldest_item xs f n size inside d some few =
    drop_more (from_place xs f n) 0 d (omega (arith, items_length xs f n size inside few))
    ∙ ap (λ x. x ∷ drop 1 (from_place xs f n))
    (get_or-take n (drop f (xs ++ xs)) 0 d some ∙ item xs f n size inside 0 d (omega arith) ∙ ap (λ k. get_or xs k d) (same f inside))
  where
    same : (f : ℕ) → f < 16 → (f + 0) % 16 ≡ f
    same f h = omega arith

pub after_remove : {A : Type 0} (xs : List A) (f n : ℕ) (size : length xs ≡ 16) (inside : f < 16) → 0 < n → n ≤ 16
    → from_place xs ((f + 1) % 16) (n - 1) ≡ drop 1 (from_place xs f n)
after_remove xs f n size inside some few =
    let next : (f + 1) % 16 < 16 = omega arith in
    let left : length (from_place xs ((f + 1) % 16) (n - 1)) ≡ n - 1 = items_length xs ((f + 1) % 16) (n - 1) size next (omega arith) in
    same_lists _ _ (omega (arith, left, length-drop 1 (from_place xs f n), items_length xs f n size inside few))
    (λ k d h.
    let within : k < n - 1 = omega (arith, h, left) in
    get_or-take (n - 1) (drop ((f + 1) % 16) (xs ++ xs)) k d within
    ∙ item xs ((f + 1) % 16) (n - 1) size next k d (omega arith)
    ∙ ap (λ i. get_or xs i d) (same f k)
    ∙ sym (get_or-drop 1 (from_place xs f n) k d ∙ get_or-take n (drop f (xs ++ xs)) (1 + k) d (omega arith) ∙ item xs f n size inside (1 + k) d (omega arith)))
  where
    same : (f k : ℕ) → ((f + 1) % 16 + k) % 16 ≡ (f + (1 + k)) % 16
    same f k = omega arith

pub after_push : {A : Type 0} (xs : List A) (f n : ℕ) (size : length xs ≡ 16) (inside : f < 16) (y : A) → n < 16
    → from_place (slice_set xs ((f + n) % 16) y) f (n + 1) ≡ from_place xs f n ++ y ∷ []
after_push xs f n size inside y room =
    let ys : List _ = set xs ((f + n) % 16) y in
    let size' : length ys ≡ 16 = length-set xs ((f + n) % 16) y ∙ size in
    let few : n ≤ 16 = omega arith in
    take_more (drop f (ys ++ ys)) n y (omega (arith, rest_length ys f n size' inside))
    ∙ ap (λ l. l ++ slice_index_or (drop f (ys ++ ys)) n y ∷ [])
    (same_lists (from_place ys f n) (from_place xs f n) (items_length ys f n size' inside few ∙ sym (items_length xs f n size inside few))
    (λ k d h.
    let within : k < n = omega (arith, h, items_length ys f n size' inside few) in
    get_or-take n (drop f (ys ++ ys)) k d within ∙ item ys f n size' inside k d (omega arith)
    ∙ get_or-set_other xs ((f + n) % 16) ((f + k) % 16) y d (apart f k n inside within room)
    ∙ sym (get_or-take n (drop f (xs ++ xs)) k d within ∙ item xs f n size inside k d (omega arith))))
    ∙ ap (λ x. from_place xs f n ++ x ∷ [])
    (item ys f n size' inside n y room ∙ get_or-set_same xs ((f + n) % 16) y y (omega (arith, size)))
  where
    apart : (f k n : ℕ) → f < 16 → k < n → n < 16 → (f + k) % 16 ≢ (f + n) % 16
    apart f k n a b c = omega arith
