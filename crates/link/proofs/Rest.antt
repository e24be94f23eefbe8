-- A quiet link is at rest: the line is at mark, and the receiver is outside a frame.
use Rattle.std.proofs.Common.{◌≡◌, ℕ, zero, suc, ◌+◌, ◌<◌, ◌≤◌, Bool, true, false, if◌then◌else◌, nat_lt, nat_le, List, [], ◌∷◌, length, get_or, take, replicate, sym, refl, ap, ◌∙◌, subst, ⊎_elim, le_of_suc-le-suc, not-suc-le-zero, arith, length-append}
use lib.ListN.{length-replicate}
use Rattle.std.specs.List.{fold}
use Rattle.std.proofs.lemmas.List.Sums.{fold-append}
use Rattle.std.proofs.lemmas.Bool.{cases_lt, cases_Bool, leb-false}
use Rattle.line.specs.declared.level.Level.{Level}
use Rattle.line.specs.declared.level.Level.TheVariants.{Space, Mark}
use Rattle.line.specs.declared.format.StopBits.{StopBits}
use Rattle.line.specs.declared.format.StopBits.TheVariants.{One, Two}
use Rattle.line.specs.Frames.{first_stop, frame, stop_count}
use Rattle.ends.specs.Times.{held}
use Rattle.ends.specs.Sender.{SenderState, SoundSender, frame_levels, first_of, rest_of}
use Rattle.ends.specs.Receiver.{ReceiverState, SoundReceiver, Doing, idle, framing, counting, nothing, heard_in_frame, heard, entry_of, last_sample, falling_on, decided, falling_before, taken_now}
use Rattle.link.specs.Delivery.{Marks}
use Rattle.line.proofs.Bits.{front, frame_front, frame_fits}
use Rattle.ends.proofs.Sampling.{before_zero, before_more, decided_length, all_by_last}

pub mark_not_space : Mark ≡ Space → ⊥
mark_not_space e = cc

-- the level after which none is left
abbrev pub last_level : Level → List Level → Level
last_level l xs = fold (λ _ x. x) l xs

last_replicate : (l b : Level) (n : ℕ) → 0 < n → last_level l (replicate n b) ≡ b
last_replicate l b zero h = absurd (not-suc-le-zero h)
last_replicate l b (suc zero) h = refl
last_replicate l b (suc (suc n)) h = last_replicate b b (suc n) (omega arith)

last_held : (l : Level) (ns : List ℕ) (bs : List Level) → length bs ≤ length ns → ((k : ℕ) → k < length bs → 0 < get_or ns k 0)
    → last_level l (held ns bs) ≡ last_level l bs
last_held l [] [] fits long = refl
last_held l (n ∷ ns) [] fits long = refl
last_held l [] (b ∷ bs) fits long = absurd (not-suc-le-zero fits)
last_held l (n ∷ ns) (b ∷ bs) fits long =
    fold-append (λ _ x. x) l (replicate n b) (held ns bs)
    ∙ ap (λ (x : Level). last_level x (held ns bs)) (last_replicate l b n (long 0 (omega arith)))
    ∙ last_held b ns bs (le_of_suc-le-suc fits) (λ k h. long (suc k) (omega arith))

last_stops : (l : Level) (p : StopBits) → last_level l (replicate (stop_count p) Mark) ≡ Mark
last_stops l One = refl
last_stops l Two = refl

last_first : (xs : List Level) → last_level (first_of xs) (rest_of xs) ≡ last_level Mark xs
last_first [] = refl
last_first (x ∷ xs) = refl

pub frame_ends : (s : SenderState) → SoundSender s → (c : ℕ) → last_level (first_of (frame_levels s c)) (rest_of (frame_levels s c)) ≡ Mark
frame_ends s ok c =
    let f = s.format in
    let fits : length (frame f c) ≤ 13 = frame_fits f c in
    last_first (frame_levels s c)
    ∙ last_held Mark s.lengths (frame f c) (omega (arith, fits, ok.thirteen)) (λ k h. ok.lasting k (omega arith))
    ∙ ap (λ (l : List Level). last_level Mark l) (frame_front f c)
    ∙ fold-append (λ _ x. x) Mark (front f c) (replicate (stop_count f.stops) Mark)
    ∙ last_stops (last_level Mark (front f c)) f.stops

-- what the levels given, the newest first, say of a receiver
abbrev pub Settled : ReceiverState → Level → Doing → List Level → Type 0
Settled r p idle ls = p ≡ Space → Marks (take 1 ls) → ⊥
Settled r p (framing n xs) ls = (length xs ≡ falling_before (suc n) r.samples) × (n < last_sample r) × (Marks (take (suc n) ls) → ⊥)
Settled r p (counting n) ls = Marks (take (suc (last_sample r)) ls) → ⊥

pub fewer_marks : (a b : ℕ) (ls : List Level) → a ≤ b → Marks (take b ls) → Marks (take a ls)
fewer_marks zero b ls h t = tt
fewer_marks (suc a) zero ls h t = absurd (not-suc-le-zero h)
fewer_marks (suc a) (suc b) [] h t = tt
fewer_marks (suc a) (suc b) (Mark ∷ ls) h t = fewer_marks a b ls (le_of_suc-le-suc h) t
fewer_marks (suc a) (suc b) (Space ∷ ls) h t = t

marks_rest : (l : Level) (n : ℕ) (ls : List Level) → Marks (l ∷ take n ls) → Marks (take n ls)
marks_rest Mark n ls t = t
marks_rest Space n ls t = absurd t

settled_idle : (l : Level) (ls : List Level) → l ≡ Space → Marks (take 1 (l ∷ ls)) → ⊥
settled_idle Space ls e t = t
settled_idle Mark ls e t = mark_not_space e

settled_fault : (r : ReceiverState) (l : Level) (ls : List Level) (b : Bool) → (Marks (take (suc (last_sample r)) (l ∷ ls)) → ⊥)
    → Settled r l (if b then idle else counting 0) (l ∷ ls)
settled_fault r l ls true h = settled_idle l ls
settled_fault r l ls false h = h

one_more : (n : ℕ) → suc n ≡ n + 1
one_more n = omega arith

settled_frame : (r : ReceiverState) → SoundReceiver r → (n : ℕ) (xs : List Level) (l : Level) (ls : List Level)
    → length xs ≡ falling_before n r.samples → n ≤ last_sample r → (Marks (take (suc n) (l ∷ ls)) → ⊥)
    → Settled r l (heard_in_frame r.format n (taken_now r.samples n xs l)).doing (l ∷ ls)
settled_frame r ok n xs l ls e h no_marks = ⊎_elim ended (λ b. unended b (decided now) refl) (cases_Bool (nat_le (1 + f) (length (decided now))))
  where
    f : ℕ
    f = first_stop r.format

    now : List Level
    now = taken_now r.samples n xs l

    length_now : length now ≡ falling_before (suc n) r.samples
    length_now = omega (arith, e, length-append xs (replicate (falling_on n r.samples) l), length-replicate (falling_on n r.samples) l, before_more n r.samples)

    ended : nat_le (1 + f) (length (decided now)) ≡ true → Settled r l (heard_in_frame r.format n (taken_now r.samples n xs l)).doing (l ∷ ls)
    ended b = rw b (settled_fault r l ls (nat_lt (entry_of r.format (decided now)).1 4) (λ z. no_marks (fewer_marks (suc n) (suc (last_sample r)) (l ∷ ls) (omega (arith, h)) z)))

    within : nat_le (1 + f) (length (decided now)) ≡ false → n < last_sample r
    within b = ⊎_elim (λ (z : n < last_sample r). z)
        (λ (z : last_sample r ≤ n). absurd (omega (arith, leb-false (1 + f) (length (decided now)) b, decided_length now, length_now, all_by_last r ok (suc n) (omega (arith, z)))))
        (cases_lt n (last_sample r))

    unended : nat_le (1 + f) (length (decided now)) ≡ false → (bs : List Level) → decided now ≡ bs → Settled r l (heard_in_frame r.format n (taken_now r.samples n xs l)).doing (l ∷ ls)
    unended b [] s = rw (b, s) (length_now, within b, no_marks)
    unended b (Space ∷ bs) s = rw (b, s) (length_now, within b, no_marks)
    unended b (Mark ∷ bs) s = rw (b, s) (settled_idle l ls)

pub settled_clock : (r : ReceiverState) → SoundReceiver r → (p : Level) (d : Doing) (l : Level) (ls : List Level)
    → Settled r p d ls → Settled r l (heard r p d l).doing (l ∷ ls)
settled_clock r ok Mark idle Space ls t = settled_frame r ok 0 [] Space ls (sym (before_zero r.samples)) (omega arith) (λ z. z)
settled_clock r ok Mark idle Mark ls t = λ e z. mark_not_space e
settled_clock r ok Space idle l ls t = settled_idle l ls
settled_clock r ok p (framing n xs) l ls t =
    settled_frame r ok (n + 1) xs l ls (t.0 ∙ ap (λ (x : ℕ). falling_before x r.samples) (one_more n)) (omega (arith, t.1))
    (λ z. t.2 (marks_rest l (suc n) ls (subst (λ (x : ℕ). Marks (l ∷ take x ls)) (sym (one_more n)) z)))
settled_clock r ok p (counting n) Mark ls t = λ e z. mark_not_space e
settled_clock r ok Mark (counting n) Space ls t = settled_frame r ok 0 [] Space ls (sym (before_zero r.samples)) (omega arith) (λ z. z)
settled_clock r ok Space (counting n) Space ls t = go (nat_le r.break_length (n + 1))
  where
    go : (b : Bool) → Settled r Space (if b then record { doing = idle; arrived = (0, 8) ∷ [] } else nothing (counting (n + 1))).doing (Space ∷ ls)
    go true = λ e z. z
    go false = λ z. z

pub settled_rest : (r : ReceiverState) (p : Level) (d : Doing) (ls : List Level) → Settled r p d ls → Marks (take (last_sample r + 1) ls) → (d ≡ idle) × (p ≡ Mark)
settled_rest r Mark idle ls t z = (refl, refl)
settled_rest r Space idle ls t z = absurd (t refl (fewer_marks 1 (last_sample r + 1) ls (omega arith) z))
settled_rest r p (framing n xs) ls t z = absurd (t.2 (fewer_marks (suc n) (last_sample r + 1) ls (omega (arith, t.1)) z))
settled_rest r p (counting n) ls t z = absurd (t (fewer_marks (suc (last_sample r)) (last_sample r + 1) ls (omega arith) z))
