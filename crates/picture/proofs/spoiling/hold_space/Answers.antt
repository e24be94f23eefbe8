-- The bytes between the two ends, which are cut to the picture's length, are 0.
use Rattle.std.proofs.Common.{◌≡◌, ℕ, ◌+◌, ◌-◌, ◌<◌, ◌≤◌, min, if◌then◌else◌, nat_le, nat_lt, List, ◌++◌, length, get_or, take, drop, replicate, ap, ◌∙◌, ⊎_elim, arith}
use borrow.Rule.Slice.PartMut.{put_mid}
use Rattle.std.proofs.lemmas.Bool.{cases_lt}
use Rattle.std.proofs.lemmas.Bool.Decides.{nat_tests}
use Rattle.std.proofs.lemmas.List.{get_or-take, get_or-drop, get_or_append_left, get_or-append_right, get_or-replicate, length-take-le, length-drop, length-replicate}
use Rattle.picture.proofs.spoiling.hold_space.Goals as goal

module _ (xs : List ℕ) (a e : ℕ) (ordered : a ≤ e) (within : e ≤ length xs) where
  before : length (take a xs) ≡ a
  before = length-take-le a xs (omega arith)

  -- what stands at a place after the part became zeros
  zeroed : (k : ℕ) → k < length xs
      → get_or (put_mid a (e - a) xs (replicate (e - a) 0)) k 0 ≡ (if nat_le a k then (if nat_lt k e then 0 else get_or xs k 0) else get_or xs k 0)
  zeroed k h =
      let rest : List ℕ = drop (e - a) (drop a xs) in
      let all : List ℕ = replicate (e - a) 0 ++ rest in ⊎_elim
      (λ (l : k < a).
      let at : get_or (take a xs ++ all) k 0 ≡ get_or xs k 0 = get_or_append_left (take a xs) all 0 k (omega (arith, before)) ∙ get_or-take a xs k 0 l in
      grind (arith, nat_tests))
      (λ (g : a ≤ k).
      let past : get_or (take a xs ++ all) k 0 ≡ get_or all (k - a) 0 = get_or-append_right (take a xs) all a k 0 before g in ⊎_elim
      (λ (l : k < e).
      let at : get_or all (k - a) 0 ≡ 0 = get_or_append_left (replicate (e - a) 0) rest 0 (k - a) (omega (arith, length-replicate {A = ℕ} (e - a) 0)) ∙ get_or-replicate (e - a) (k - a) 0 0 (omega arith) in
      grind (arith, nat_tests))
      (λ (m : e ≤ k).
      let at : get_or all (k - a) 0 ≡ get_or xs k 0 =
      get_or-append_right (replicate (e - a) 0) rest (e - a) (k - a) 0 (length-replicate {A = ℕ} (e - a) 0) (omega arith)
      ∙ get_or-drop (e - a) (drop a xs) (k - a - (e - a)) 0 ∙ get_or-drop a xs (e - a + (k - a - (e - a))) 0 ∙ ap (λ (i : ℕ). get_or xs i 0) (omega arith) in
      grind (arith, nat_tests))
      (cases_lt k e))
      (cases_lt k a)

-- the same, by the two ends before they are cut
all_spoiled : (x old from to size begin end k : ℕ) → end ≡ min to size → begin ≡ min from end → k < size
    → x ≡ (if nat_le begin k then (if nat_lt k end then 0 else old) else old) → x ≡ (if nat_le from k then (if nat_lt k to then 0 else old) else old)
all_spoiled x old from to size begin end k e b h is = ⊎_elim
    (λ (l : k < to). ⊎_elim (λ (f : k < from). grind (arith, nat_tests)) (λ (f : from ≤ k). grind (arith, nat_tests)) (cases_lt k from))
    (λ (g : to ≤ k). grind (arith, nat_tests))
    (cases_lt k to)

pub returns : goal.returns
returns c k h =
    let xs = c.args.picture.now in
    let a : ℕ = c.min-begin.result in
    let e : ℕ = c.min-end.result in
    let ordered : a ≤ e = omega (arith, c.min-begin.ensures) in
    let within : e ≤ length xs = omega (arith, c.min-end.ensures) in
    let new : c.fill.new.self ≡ replicate (e - a) 0 =
    c.fill.ensures.after (λ y h. h) ∙ ap (λ (n : ℕ). replicate n 0) (length-take-le (e - a) (drop a xs) (omega (arith, length-drop a xs))) in
    all_spoiled _ (get_or xs k 0) c.args.from c.args.to (length xs) a e k c.min-end.ensures c.min-begin.ensures h
    (ap (λ ys. get_or (put_mid a (e - a) xs ys) k 0) new ∙ zeroed xs a e ordered within k h)
