-- What was read and what is unread, in the order in which it arrived: which characters were lost, and what the overrun flag says.
use Rattle.std.proofs.Common.{◌≡◌, ℕ, zero, suc, pred, ◌+◌, ◌<◌, ◌≤◌, Bool, true, false, if◌then◌else◌, ◌==◌, List, [], ◌∷◌, ◌++◌, length, get_or, take, sym, refl, ap, ◌∙◌, subst, ⊎_elim, append_assoc, le_of_suc-le-suc, not-suc-le-zero, arith, take_at}
use lib.Bits.{bit_or}
use Rattle.std.proofs.lemmas.List.{get_or_append_left, get_or_push, length_push}
use Rattle.std.proofs.lemmas.Bool.{le-leb, lt-leb, eq-eqb, ne_eqb, cases_lt}
use Rattle.std.proofs.lemmas.Bool.Decides.{nat_tests}
use Rattle.ends.specs.Receiver.{Entry, joined}
use Rattle.link.specs.History.{numbered}

abbrev pub Noted : Type 0
Noted = ℕ × Entry

abbrev pub pairs : List ℕ → List Entry → List Noted
pairs [] es = []
pairs (u ∷ us) [] = []
pairs (u ∷ us) (e ∷ es) = (u, e) ∷ pairs us es

-- the entries with their numbers, where the next one to arrive had number p: a flag of 1 where numbers are missing just before
abbrev pub Numbered : List ℕ → ℕ → List Noted → Type 0
Numbered cs p [] = Unit {0}
Numbered cs p (x ∷ xs) = (p ≤ x.0) × (x.0 < length cs) × (x.1.0 ≡ get_or cs x.0 0) × (x.1.1 ≡ (if p == x.0 then 0 else 1)) × Numbered cs (suc x.0) xs

abbrev pub next : ℕ → List Noted → ℕ
next p [] = p
next p (x ∷ xs) = next (suc x.0) xs

pub next_push : (p : ℕ) (xs : List Noted) (x : Noted) → next p (xs ++ (x ∷ [])) ≡ suc x.0
next_push p [] x = refl
next_push p (y ∷ xs) x = next_push (suc y.0) xs x

pub numbered_more : (cs : List ℕ) (c p : ℕ) (xs : List Noted) → Numbered cs p xs → Numbered (cs ++ (c ∷ [])) p xs
numbered_more cs c p [] t = tt
numbered_more cs c p (x ∷ xs) t =
    (t.0, omega (arith, t.1, length_push cs c), t.2 ∙ sym (get_or_append_left cs (c ∷ []) 0 x.0 t.1), t.3, numbered_more cs c (suc x.0) xs t.4)

pub numbered_push : (cs : List ℕ) (p : ℕ) (xs : List Noted) (x : Noted) → Numbered cs p xs → next p xs ≤ x.0 → x.0 < length cs
    → x.1.0 ≡ get_or cs x.0 0 → x.1.1 ≡ (if next p xs == x.0 then 0 else 1) → Numbered cs p (xs ++ (x ∷ []))
numbered_push cs p [] x t a b c d = (a, b, c, d, tt)
numbered_push cs p (y ∷ xs) x t a b c d = (t.0, t.1, t.2, t.3, numbered_push cs (suc y.0) xs x t.4 a b c d)

pub numbered_init : (cs : List ℕ) (p : ℕ) (xs ys : List Noted) → Numbered cs p (xs ++ ys) → Numbered cs p xs
numbered_init cs p [] ys t = tt
numbered_init cs p (x ∷ xs) ys t = (t.0, t.1, t.2, t.3, numbered_init cs (suc x.0) xs ys t.4)

-- of the last one
pub numbered_last : (cs : List ℕ) (p : ℕ) (xs : List Noted) (x : Noted) → Numbered cs p (xs ++ (x ∷ []))
    → (next p xs ≤ x.0) × (x.1.1 ≡ (if next p xs == x.0 then 0 else 1))
numbered_last cs p [] x t = (t.0, t.3)
numbered_last cs p (y ∷ xs) x t = numbered_last cs (suc y.0) xs x t.4

pub joined_free : (room : ℕ) (es : List Entry) (e : Entry) → length es < room → joined room es e ≡ es ++ (e ∷ [])
joined_free room [] e h = refl
joined_free room (u ∷ []) e h = rw (lt-leb room 1 h)
joined_free room (u ∷ (v ∷ es)) e h = ap {B = List Entry} (λ l. u ∷ l) (joined_free (pred room) (v ∷ es) e (omega arith))

abbrev pub over : Entry → Entry → Entry
over e u = (e.0, bit_or (bit_or e.1 u.1) 1)

pub joined_full : (room : ℕ) (es : List Entry) (u e : Entry) → room ≤ length es + 1 → joined room (es ++ (u ∷ [])) e ≡ es ++ (over e u ∷ [])
joined_full room [] u e h = rw (le-leb room 1 (omega arith))
joined_full room (v ∷ []) u e h = ap {B = List Entry} (λ l. v ∷ l) (joined_full (pred room) [] u e (omega arith))
joined_full room (v ∷ (w ∷ es)) u e h = ap {B = List Entry} (λ l. v ∷ l) (joined_full (pred room) (w ∷ es) u e (omega arith))

pub pairs_push : (us : List ℕ) (es : List Entry) (k : ℕ) (u : Entry) → length us ≡ length es → pairs (us ++ (k ∷ [])) (es ++ (u ∷ [])) ≡ pairs us es ++ ((k, u) ∷ [])
pairs_push [] [] k u h = refl
pairs_push [] (e ∷ es) k u h = absurd (omega arith)
pairs_push (v ∷ us) [] k u h = absurd (omega arith)
pairs_push (v ∷ us) (e ∷ es) k u h = ap {B = List Noted} (λ l. (v, e) ∷ l) (pairs_push us es k u (omega arith))

pub by_last : {A : Type 0} (xs : List A) → 0 < length xs → (ys : List A) × (y : A) × (xs ≡ ys ++ (y ∷ []))
by_last [] h = absurd (not-suc-le-zero h)
by_last (x ∷ []) h = ([], x, refl)
by_last {A} (x ∷ (y ∷ xs)) h = let r = by_last (y ∷ xs) (omega arith) in (x ∷ r.0, r.1, ap {B = List A} (λ l. x ∷ l) r.2)

pub record Kept (received unread : List ℕ) (reads : List Noted) (es : List Entry) : Type 0 where
  pub same : length unread ≡ length es
  pub chain : Numbered received 0 (reads ++ pairs unread es)
  pub newest : next 0 (reads ++ pairs unread es) ≡ length received

pub kept_read : (cs us : List ℕ) (u : ℕ) (reads : List Noted) (es : List Entry) (e : Entry) → Kept cs (u ∷ us) reads (e ∷ es) → Kept cs us (reads ++ ((u, e) ∷ [])) es
kept_read cs us u reads es e k = record {
  same = omega (arith, k.same);
  chain = subst (λ (l : List Noted). Numbered cs 0 l) (sym (append_assoc reads ((u, e) ∷ []) (pairs us es))) k.chain;
  newest = subst (λ (l : List Noted). next 0 l ≡ length cs) (sym (append_assoc reads ((u, e) ∷ []) (pairs us es))) k.newest;
}

flag_over : (f : ℕ) (b : Bool) → f ≡ (if b then 0 else 1) → bit_or (bit_or 0 f) 1 ≡ 1
flag_over f true e = ap (λ (x : ℕ). bit_or (bit_or 0 x) 1) e
flag_over f false e = ap (λ (x : ℕ). bit_or (bit_or 0 x) 1) e

-- one more, where there is room
kept_free : (cs us : List ℕ) (reads : List Noted) (es : List Entry) (c : ℕ) → Kept cs us reads es
    → Kept (cs ++ (c ∷ [])) (us ++ (length cs ∷ [])) reads (es ++ ((c, 0) ∷ []))
kept_free cs us reads es c k =
    let e : reads ++ pairs (us ++ (length cs ∷ [])) (es ++ ((c, 0) ∷ [])) ≡ (reads ++ pairs us es) ++ ((length cs, (c, 0)) ∷ []) =
    ap (λ (l : List Noted). reads ++ l) (pairs_push us es (length cs) (c, 0) k.same) ∙ sym (append_assoc reads (pairs us es) ((length cs, (c, 0)) ∷ [])) in
    record {
      same = omega (arith, k.same, length_push us (length cs), length_push es (c, 0));
      chain = subst (λ (l : List Noted). Numbered (cs ++ (c ∷ [])) 0 l) (sym e)
          (numbered_push (cs ++ (c ∷ [])) 0 (reads ++ pairs us es) (length cs, (c, 0)) (numbered_more cs c 0 (reads ++ pairs us es) k.chain)
          (omega (arith, k.newest)) (omega (arith, length_push cs c)) (sym (get_or_push cs c 0 (length cs) refl))
          (sym (ap (λ (b : Bool). if b then 0 else 1) (eq-eqb (next 0 (reads ++ pairs us es)) (length cs) k.newest))));
      newest = ap (λ (l : List Noted). next 0 l) e ∙ next_push 0 (reads ++ pairs us es) (length cs, (c, 0)) ∙ omega (arith, length_push cs c);
    }

-- one more in the place of the newest
kept_full : (cs us : List ℕ) (n : ℕ) (reads : List Noted) (es : List Entry) (u : Entry) (c : ℕ) → length us ≡ length es → Kept cs (us ++ (n ∷ [])) reads (es ++ (u ∷ []))
    → Kept (cs ++ (c ∷ [])) (us ++ (length cs ∷ [])) reads (es ++ (over (c, 0) u ∷ []))
kept_full cs us n reads es u c same k =
    let A : List Noted = reads ++ pairs us es in
    let e0 : reads ++ pairs (us ++ (n ∷ [])) (es ++ (u ∷ [])) ≡ A ++ ((n, u) ∷ []) =
    ap (λ (l : List Noted). reads ++ l) (pairs_push us es n u same) ∙ sym (append_assoc reads (pairs us es) ((n, u) ∷ [])) in
    let x : Noted = (length cs, over (c, 0) u) in
    let e1 : reads ++ pairs (us ++ (length cs ∷ [])) (es ++ (over (c, 0) u ∷ [])) ≡ A ++ (x ∷ []) =
    ap (λ (l : List Noted). reads ++ l) (pairs_push us es (length cs) (over (c, 0) u) same) ∙ sym (append_assoc reads (pairs us es) (x ∷ [])) in
    let was : Numbered cs 0 (A ++ ((n, u) ∷ [])) = subst (λ (l : List Noted). Numbered cs 0 l) e0 k.chain in
    let top : suc n ≡ length cs = sym (next_push 0 A (n, u)) ∙ ap (λ (l : List Noted). next 0 l) (sym e0) ∙ k.newest in
    let last : (next 0 A ≤ n) × (u.1 ≡ (if next 0 A == n then 0 else 1)) = numbered_last cs 0 A (n, u) was in
    let flag : bit_or (bit_or 0 u.1) 1 ≡ 1 = flag_over u.1 (next 0 A == n) last.1 in
    let apart : next 0 A ≡ length cs → ⊥ = λ z. omega (arith, last.0, top, z) in
    record {
      same = omega (arith, same, length_push us (length cs), length_push es (over (c, 0) u));
      chain = subst (λ (l : List Noted). Numbered (cs ++ (c ∷ [])) 0 l) (sym e1)
          (numbered_push (cs ++ (c ∷ [])) 0 A x (numbered_more cs c 0 A (numbered_init cs 0 A ((n, u) ∷ []) was))
          (omega (arith, last.0, top)) (omega (arith, length_push cs c)) (sym (get_or_push cs c 0 (length cs) refl))
          (flag ∙ sym (ap (λ (b : Bool). if b then 0 else 1) (ne_eqb (next 0 A) (length cs) apart))));
      newest = ap (λ (l : List Noted). next 0 l) e1 ∙ next_push 0 A x ∙ omega (arith, length_push cs c);
    }

arrival_full : (room : ℕ) (cs us : List ℕ) (n : ℕ) (reads : List Noted) (es : List Entry) (u : Entry) (c : ℕ) → room ≤ length us + 1
    → Kept cs (us ++ (n ∷ [])) reads (es ++ (u ∷ []))
    → Kept (cs ++ (c ∷ [])) (numbered room (us ++ (n ∷ [])) ((c, 0) ∷ []) (length cs)) reads (joined room (es ++ (u ∷ [])) (c, 0))
arrival_full room cs us n reads es u c h k =
    let z : length us ≡ length es = omega (arith, k.same, length_push us n, length_push es u) in
    let a : numbered room (us ++ (n ∷ [])) ((c, 0) ∷ []) (length cs) ≡ us ++ (length cs ∷ []) =
    ap (λ (b : Bool). (if b then take (pred (length (us ++ (n ∷ [])))) (us ++ (n ∷ [])) else us ++ (n ∷ [])) ++ (length cs ∷ []))
    (le-leb room (length (us ++ (n ∷ []))) (omega (arith, h, length_push us n)))
    ∙ ap (λ (l : List ℕ). l ++ (length cs ∷ [])) (take_at us (n ∷ []) (pred (length (us ++ (n ∷ [])))) (omega (arith, length_push us n))) in
    subst (λ (l : List ℕ). Kept (cs ++ (c ∷ [])) l reads (joined room (es ++ (u ∷ [])) (c, 0))) (sym a)
    (subst (λ (l : List Entry). Kept (cs ++ (c ∷ [])) (us ++ (length cs ∷ [])) reads l) (sym (joined_full room es u (c, 0) (omega (arith, h, z))))
    (kept_full cs us n reads es u c z k))

pub kept_arrival : (room : ℕ) (cs us : List ℕ) (reads : List Noted) (es : List Entry) (c : ℕ) → 0 < room → Kept cs us reads es
    → Kept (cs ++ (c ∷ [])) (numbered room us ((c, 0) ∷ []) (length cs)) reads (joined room es (c, 0))
kept_arrival room cs us reads es c some k = ⊎_elim free full (cases_lt (length us) room)
  where
    Goal : List ℕ → List Entry → Type 0
    Goal v f = Kept (cs ++ (c ∷ [])) (numbered room v ((c, 0) ∷ []) (length cs)) reads (joined room f (c, 0))

    free : length us < room → Kept (cs ++ (c ∷ [])) (numbered room us ((c, 0) ∷ []) (length cs)) reads (joined room es (c, 0))
    free h =
        subst (λ (b : Bool). Kept (cs ++ (c ∷ [])) ((if b then take (pred (length us)) us else us) ++ (length cs ∷ [])) reads (joined room es (c, 0))) (sym (lt-leb room (length us) h))
        (subst (λ (l : List Entry). Kept (cs ++ (c ∷ [])) (us ++ (length cs ∷ [])) reads l) (sym (joined_free room es (c, 0) (omega (arith, h, k.same))))
        (kept_free cs us reads es c k))

    full : room ≤ length us → Kept (cs ++ (c ∷ [])) (numbered room us ((c, 0) ∷ []) (length cs)) reads (joined room es (c, 0))
    full h =
        let v = by_last us (omega (arith, h, some)) in
        let f = by_last es (omega (arith, h, some, k.same)) in
        let k2 : Kept cs (v.0 ++ (v.1 ∷ [])) reads (f.0 ++ (f.1 ∷ [])) =
        subst (λ (l : List ℕ). Kept cs l reads (f.0 ++ (f.1 ∷ []))) v.2 (subst (λ (l : List Entry). Kept cs us reads l) f.2 k) in
        subst (λ (l : List ℕ). Goal l es) (sym v.2)
        (subst (λ (l : List Entry). Goal (v.0 ++ (v.1 ∷ [])) l) (sym f.2)
        (arrival_full room cs v.0 v.1 reads f.0 f.1 c (omega (arith, h, length_push v.0 v.1, ap length v.2)) k2))

-- what the reads tell
abbrev pub none : Noted
none = (0, (0, 0))

pub numbered_at : (cs : List ℕ) (p : ℕ) (xs : List Noted) (j : ℕ) → Numbered cs p xs → j < length xs
    → (p ≤ (get_or xs j none).0) × ((get_or xs j none).0 < length cs) × ((get_or xs j none).1.0 ≡ get_or cs (get_or xs j none).0 0) × ((get_or xs j none).1.1 < 2)
numbered_at cs p [] j t h = absurd (not-suc-le-zero h)
numbered_at cs p (x ∷ xs) zero t h = (t.0, t.1, t.2, below_two (p == x.0) x.1.1 t.3)
  where
    below_two : (b : Bool) (f : ℕ) → f ≡ (if b then 0 else 1) → f < 2
    below_two true f e = omega arith
    below_two false f e = omega arith
numbered_at cs p (x ∷ xs) (suc j) t h =
    let r = numbered_at cs (suc x.0) xs j t.4 (le_of_suc-le-suc h) in
    (omega (arith, t.0, r.0), r.1, r.2, r.3)

-- no number just before n stands in the list
abbrev pub Missing : List Noted → ℕ → Type 0
Missing xs n = (i : ℕ) → i < length xs → (get_or xs i none).0 + 1 ≡ n → ⊥

missing_more : (x : Noted) (xs : List Noted) (n : ℕ) → suc x.0 < n → Missing xs n → Missing (x ∷ xs) n
missing_more x xs n a m zero k z = omega (arith, z, a)
missing_more x xs n a m (suc i) k z = m i (le_of_suc-le-suc k) z

pub flag_missing : (cs : List ℕ) (p : ℕ) (xs : List Noted) (j : ℕ) → Numbered cs p xs → j < length xs
    → (get_or xs j none).1.1 ≡ 1 → (p < (get_or xs j none).0) × Missing xs (get_or xs j none).0
flag_missing cs p [] j t h f = absurd (not-suc-le-zero h)
flag_missing cs p (x ∷ xs) zero t h f = (lower, missing)
  where
    lower : p < x.0
    lower = let a : p ≤ x.0 = t.0 in let b : x.1.1 ≡ (if p == x.0 then 0 else 1) = t.3 in grind (arith, nat_tests)

    missing : Missing (x ∷ xs) x.0
    missing zero k z = omega (arith, z)
    missing (suc i) k z = omega (arith, z, (numbered_at cs (suc x.0) xs i t.4 (le_of_suc-le-suc k)).0)
flag_missing cs p (x ∷ xs) (suc j) t h f =
    let r = flag_missing cs (suc x.0) xs j t.4 (le_of_suc-le-suc h) f in
    (omega (arith, r.0, t.0), missing_more x xs (get_or xs j none).0 r.0 r.1)

pub missing_flag : (cs : List ℕ) (p : ℕ) (xs : List Noted) (j : ℕ) → Numbered cs p xs → j < length xs
    → p < (get_or xs j none).0 → Missing xs (get_or xs j none).0 → (get_or xs j none).1.1 ≡ 1
missing_flag cs p [] j t h l m = absurd (not-suc-le-zero h)
missing_flag cs p (x ∷ xs) zero t h l m = let b : x.1.1 ≡ (if p == x.0 then 0 else 1) = t.3 in grind (arith, nat_tests)
missing_flag cs p (x ∷ xs) (suc j) t h l m =
    let a : suc x.0 ≤ (get_or xs j none).0 = (numbered_at cs (suc x.0) xs j t.4 (le_of_suc-le-suc h)).0 in
    let b : x.0 + 1 ≡ (get_or xs j none).0 → ⊥ = m 0 (omega arith) in
    missing_flag cs (suc x.0) xs j t.4 (le_of_suc-le-suc h) (omega (arith, a, b)) (λ i k z. m (suc i) (omega (arith, k)) z)

-- what was read was read once, in order
pub reads_rise : (cs : List ℕ) (p : ℕ) (xs : List Noted) (i j : ℕ) → Numbered cs p xs → i < j → j < length xs → (get_or xs i none).0 < (get_or xs j none).0
reads_rise cs p [] i j t h k = absurd (not-suc-le-zero k)
reads_rise cs p (x ∷ xs) i zero t h k = absurd (not-suc-le-zero h)
reads_rise cs p (x ∷ xs) zero (suc j) t h k = (numbered_at cs (suc x.0) xs j t.4 (le_of_suc-le-suc k)).0
reads_rise cs p (x ∷ xs) (suc i) (suc j) t h k = reads_rise cs (suc x.0) xs i j t.4 (le_of_suc-le-suc h) (le_of_suc-le-suc k)
