-- Each bit held for its length: where a bit's level stands in the levels of a frame.
use Rattle.std.proofs.Common.{◌≡◌, ℕ, zero, suc, ◌+◌, ◌-◌, ◌*◌, ◌<◌, ◌≤◌, List, [], ◌∷◌, ◌++◌, length, get_or, take, drop, replicate, sym, refl, ap, ◌∙◌, le_of_suc-le-suc, not-suc-le-zero, arith, length-append, get_or-drop, drop-drop, drop_at}
use lib.ListN.{length-replicate, get_or-replicate}
use lib.Seq.{drop-nil}
use Rattle.std.proofs.lemmas.List.{get_or_append_left, get_or-append_right}
use Rattle.line.specs.declared.level.Level.{Level}
use Rattle.line.specs.declared.level.Level.TheVariants.{Mark}
use Rattle.ends.specs.Times.{held, sum, start_of}
use Rattle.ends.proofs.Shifting.{held_none}

pub held_drop : (k : ℕ) (ns : List ℕ) (bs : List Level) → drop (sum (take k ns)) (held ns bs) ≡ held (drop k ns) (drop k bs)
held_drop zero ns bs = refl
held_drop (suc k) [] bs = refl
held_drop (suc k) (n ∷ ns) [] = drop-nil (n + sum (take k ns)) ∙ sym (held_none (drop k ns))
held_drop (suc k) (n ∷ ns) (b ∷ bs) =
    sym (drop-drop (sum (take k ns)) n (replicate n b ++ held ns bs))
    ∙ ap (λ (l : List Level). drop (sum (take k ns)) l) (drop_at (replicate n b) (held ns bs) n (length-replicate n b))
    ∙ held_drop k ns bs

pub level_at : (k : ℕ) (ns : List ℕ) (bs : List Level) (j : ℕ) (d : Level) → k < length bs → length bs ≤ length ns
    → sum (take k ns) ≤ j → j < sum (take (suc k) ns) → get_or (held ns bs) j d ≡ get_or bs k d
level_at k ns [] j d in_bits fits from to = absurd (not-suc-le-zero in_bits)
level_at k [] (b ∷ bs) j d in_bits fits from to = absurd (not-suc-le-zero fits)
level_at zero (n ∷ ns) (b ∷ bs) j d in_bits fits from to =
    let h : j < n = omega arith in
    get_or_append_left (replicate n b) (held ns bs) d j (rw length-replicate h) ∙ get_or-replicate n j b d h
level_at (suc k) (n ∷ ns) (b ∷ bs) j d in_bits fits from to =
    get_or-append_right (replicate n b) (held ns bs) n j d (length-replicate n b) (omega arith)
    ∙ level_at k ns bs (j - n) d (omega arith) (omega arith) (omega arith) (omega arith)

pub held_length : (ns : List ℕ) (bs : List Level) → length (held ns bs) ≡ sum (take (length bs) ns)
held_length ns [] = ap length (held_none ns)
held_length [] (b ∷ bs) = refl
held_length (n ∷ ns) (b ∷ bs) =
    length-append (replicate n b) (held ns bs) ∙ ap (λ (x : ℕ). x + length (held ns bs)) (length-replicate n b) ∙ ap (λ (x : ℕ). n + x) (held_length ns bs)

pub marks_held : (ns : List ℕ) (m j : ℕ) → get_or (held ns (replicate m Mark)) j Mark ≡ Mark
marks_held [] m j = refl
marks_held (n ∷ ns) zero j = refl
marks_held (n ∷ ns) (suc m) j = in_part (replicate n Mark) (held ns (replicate m Mark)) j (λ i. marks_in n i) (marks_held ns m)
  where
    marks_in : (n i : ℕ) → get_or (replicate n Mark) i Mark ≡ Mark
    marks_in zero i = refl
    marks_in (suc n) zero = refl
    marks_in (suc n) (suc i) = marks_in n i

    in_part : (xs ys : List Level) (j : ℕ) → ((i : ℕ) → get_or xs i Mark ≡ Mark) → ((i : ℕ) → get_or ys i Mark ≡ Mark)
        → get_or (xs ++ ys) j Mark ≡ Mark
    in_part [] ys j f g = g j
    in_part (x ∷ xs) ys zero f g = f zero
    in_part (x ∷ xs) ys (suc j) f g = in_part xs ys j (λ i. f (suc i)) g

pub marks_from : (k : ℕ) (ns : List ℕ) (bs : List Level) (m j : ℕ) → drop k bs ≡ replicate m Mark → sum (take k ns) ≤ j
    → get_or (held ns bs) j Mark ≡ Mark
marks_from k ns bs m j e from =
    let s : ℕ = sum (take k ns) in
    let at : s + (j - s) ≡ j = omega arith in
    sym (ap (λ (x : ℕ). get_or (held ns bs) x Mark) at)
    ∙ sym (get_or-drop s (held ns bs) (j - s) Mark)
    ∙ ap (λ (l : List Level). get_or l (j - s) Mark) (held_drop k ns bs)
    ∙ ap (λ (l : List Level). get_or (held (drop k ns) l) (j - s) Mark) e
    ∙ marks_held (drop k ns) m (j - s)

pub sum_more : (a : ℕ) (ns : List ℕ) → sum (take a ns) ≤ sum (take (suc a) ns)
sum_more zero [] = omega arith
sum_more zero (n ∷ ns) = omega arith
sum_more (suc a) [] = omega arith
sum_more (suc a) (n ∷ ns) = let h = sum_more a ns in omega arith

pub sum_mono : (a b : ℕ) (ns : List ℕ) → a ≤ b → sum (take a ns) ≤ sum (take b ns)
sum_mono zero b ns h = omega arith
sum_mono (suc a) zero ns h = absurd (not-suc-le-zero h)
sum_mono (suc a) (suc b) [] h = omega arith
sum_mono (suc a) (suc b) (n ∷ ns) h = let k = sum_mono a b ns (le_of_suc-le-suc h) in omega arith

-- a bit begins where the one before it ends
pub start_more : (ns : List ℕ) (k : ℕ) → start_of ns (k + 1) ≡ start_of ns k + get_or ns k 0
start_more ns k = ap (λ (x : ℕ). start_of ns x) (one k) ∙ go ns k
  where
    one : (k : ℕ) → k + 1 ≡ suc k
    one k = omega arith

    go : (ns : List ℕ) (k : ℕ) → start_of ns (suc k) ≡ start_of ns k + get_or ns k 0
    go [] zero = refl
    go [] (suc k) = refl
    go (n ∷ ns) zero = omega arith
    go (n ∷ ns) (suc k) = omega (arith, go ns k)

-- where no bit is longer than 65,536 clocks
pub start_most : (ns : List ℕ) → ((k : ℕ) → get_or ns k 0 ≤ 65536) → (k : ℕ) → start_of ns k ≤ 65536 * k
start_most ns short zero = omega arith
start_most ns short (suc k) = let one : k + 1 ≡ suc k = omega arith in omega (arith, start_most ns short k, short k, start_more ns k, ap (start_of ns) one)
