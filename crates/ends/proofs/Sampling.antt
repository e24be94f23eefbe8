-- The samples of a frame: which fall before a clock, and what is decided of them.
use Rattle.std.specs.Prelude.{◌≡◌, ℕ, zero, suc, ◌+◌, ◌-◌, ◌*◌, ◌<◌, ◌≤◌, ◌⊎◌, List, [], ◌∷◌, ◌++◌, length, get_or, drop, replicate, slice_index, slice_index_or, refl}
use Rattle.std.proofs.Common.{sym, ap, ap₂, subst, ◌∙◌, inl, inr, ⊎_elim, not-suc-le-zero, le_of_suc-le-suc, add-zero, arith, length-append, length-drop}
use Rattle.std.proofs.lemmas.List.{get_or_append_left, get_or-append_right, get_or-take, get_or-drop, length-take-le, drop_more, length-replicate, get_or-replicate}
use Rattle.std.proofs.lemmas.Bool.{cases_lt}
use Rattle.std.proofs.lemmas.Bool.Decides.{nat_tests}
use Rattle.line.specs.declared.level.Level.{Level}
use Rattle.line.specs.declared.level.Level.TheVariants.{Space, Mark}
use Rattle.line.specs.Frames.{first_stop}
use Rattle.ends.specs.declared.timing.Timing.{Timing}
use Rattle.ends.specs.declared.samples.Samples.{Samples}
use Rattle.ends.specs.Times.{samples_per_frame}
use Rattle.ends.specs.Receiver.{ReceiverState, SoundReceiver, first_sample, third_sample, last_sample, falling_on, falling_before, majority, decided, taken_now}
use Rattle.ends.specs.Timed.{sample_clocks}
use Rattle.ends.specs.Samples.{taken}
use Rattle.ends.specs.Soundness.{clocks_length, clock_at, clocks_step}

pub before_zero : (ss : List ℕ) → falling_before 0 ss ≡ 0
before_zero [] = refl
before_zero (s ∷ ss) = let h = before_zero ss in grind (arith, nat_tests)

pub before_most : (n : ℕ) (ss : List ℕ) → falling_before n ss ≤ length ss
before_most n [] = omega arith
before_most n (s ∷ ss) = let h = before_most n ss in grind (arith, nat_tests)

pub before_more : (n : ℕ) (ss : List ℕ) → falling_before (suc n) ss ≡ falling_before n ss + falling_on n ss
before_more n [] = refl
before_more n (s ∷ ss) = let h = before_more n ss in grind (arith, nat_tests)

abbrev pub Rising : List ℕ → Type 0
Rising ss = (i j : ℕ) → i ≤ j → j < length ss → slice_index ss i ≤ slice_index ss j

pub rising_rest : (s : ℕ) (ss : List ℕ) → Rising (s ∷ ss) → Rising ss
rising_rest s ss up i j h k = up (suc i) (suc j) (omega arith) (omega arith)

-- the samples before clock n are the first ones
pub under_clock : (n : ℕ) (ss : List ℕ) → Rising ss → (i : ℕ) → i < falling_before n ss → slice_index ss i < n
under_clock n [] up i h = absurd (not-suc-le-zero h)
under_clock n (s ∷ ss) up zero h =
    let m : falling_before n ss ≤ length ss = before_most n ss in
    let ih : 0 < falling_before n ss → slice_index ss 0 < n = λ k. under_clock n ss (rising_rest s ss up) 0 k in
    let u : 0 < length ss → s ≤ get_or ss 0 0 = λ k. up 0 1 (omega arith) (omega arith) in
    grind (arith, nat_tests)
under_clock n (s ∷ ss) up (suc i) h = under_clock n ss (rising_rest s ss up) i (grind (arith, nat_tests))

pub over_clock : (n : ℕ) (ss : List ℕ) → Rising ss → (i : ℕ) → i < length ss → falling_before n ss ≤ i → n ≤ slice_index ss i
over_clock n [] up i h k = absurd (not-suc-le-zero h)
over_clock n (s ∷ ss) up zero h k = grind (arith, nat_tests)
over_clock n (s ∷ ss) up (suc i) h k =
    let ih : falling_before n ss ≤ i → n ≤ get_or ss i 0 = λ b. over_clock n ss (rising_rest s ss up) i (le_of_suc-le-suc h) b in
    let u : s ≤ get_or ss i 0 = up 0 (suc i) (omega arith) h in
    grind (arith, nat_tests)

-- from each step to any two samples
rising_by : (ss : List ℕ) → ((i : ℕ) → i + 1 < length ss → slice_index ss i ≤ slice_index ss (i + 1)) → (i k : ℕ) → i + k < length ss → slice_index ss i ≤ slice_index ss (i + k)
rising_by ss up i zero h = rw add-zero (omega arith)
rising_by ss up i (suc k) h =
    let a : get_or ss i 0 ≤ get_or ss (i + k) 0 = rising_by ss up i k (omega arith) in
    let b : get_or ss (i + k) 0 ≤ get_or ss (i + k + 1) 0 = up (i + k) (omega arith) in
    let d : get_or ss (i + k + 1) 0 ≡ get_or ss (i + suc k) 0 = ap (λ (x : ℕ). slice_index ss x) (omega arith) in
    omega arith

pub rising_all : (ss : List ℕ) → ((i : ℕ) → i + 1 < length ss → slice_index ss i ≤ slice_index ss (i + 1)) → Rising ss
rising_all ss up i j h k = subst (λ (x : ℕ). slice_index ss i ≤ slice_index ss x) (omega arith) (rising_by ss up i (j - i) (omega arith))

pub sound_rising : (r : ReceiverState) → SoundReceiver r → Rising r.samples
sound_rising r ok = rising_all r.samples ok.rising

-- a sample taken at clock n lies between the first and the third of its bit
pub record Taking (r : ReceiverState) (n k : ℕ) : Type 0 where
  pub bit : k ≤ first_stop r.format
  pub begun : first_sample r k ≤ n
  pub unended : n ≤ third_sample r k

pub taking : (r : ReceiverState) → SoundReceiver r → (n k j : ℕ) → j < 3 → falling_before n r.samples ≤ 3 * k + j → 3 * k + j < falling_before (suc n) r.samples → Taking r n k
taking r ok n k j three from to =
    let up : Rising r.samples = sound_rising r ok in
    let m : falling_before (suc n) r.samples ≤ length r.samples = before_most (suc n) r.samples in
    let t : length r.samples ≡ samples_per_frame r.format = ok.all_samples in
    let bit : k ≤ first_stop r.format = omega arith in
    let a : get_or r.samples (3 * k + j) 0 < suc n = under_clock (suc n) r.samples up (3 * k + j) to in
    let b : n ≤ get_or r.samples (3 * k + j) 0 = over_clock n r.samples up (3 * k + j) (omega arith) from in
    let c : get_or r.samples (3 * k) 0 ≤ get_or r.samples (3 * k + j) 0 = up (3 * k) (3 * k + j) (omega arith) (omega arith) in
    let d : get_or r.samples (3 * k + j) 0 ≤ get_or r.samples (3 * k + 2) 0 = up (3 * k + j) (3 * k + 2) (omega arith) (omega arith) in
    record { bit = bit; begun = omega arith; unended = omega arith }

-- all the samples fall up to the last one, and not all before
pub all_by_last : (r : ReceiverState) → SoundReceiver r → (n : ℕ) → last_sample r < n → falling_before n r.samples ≡ 3 * (1 + first_stop r.format)
all_by_last r ok n h =
    let up : Rising r.samples = sound_rising r ok in
    let t : length r.samples ≡ samples_per_frame r.format = ok.all_samples in
    let m : falling_before n r.samples ≤ length r.samples = before_most n r.samples in
    let f : ℕ = first_stop r.format in
    ⊎_elim (λ (b : falling_before n r.samples < 3 * f + 3). absurd (let g : n ≤ get_or r.samples (3 * f + 2) 0 = over_clock n r.samples up (3 * f + 2) (omega arith) (omega arith) in omega arith))
    (λ (b : 3 * f + 3 ≤ falling_before n r.samples). omega arith)
    (cases_lt (falling_before n r.samples) (3 * f + 3))

pub not_all_before : (r : ReceiverState) → SoundReceiver r → (n : ℕ) → n ≤ last_sample r → falling_before n r.samples < 3 * (1 + first_stop r.format)
not_all_before r ok n h =
    let up : Rising r.samples = sound_rising r ok in
    let f : ℕ = first_stop r.format in
    ⊎_elim (λ (b : 3 * f + 2 < falling_before n r.samples). absurd (let g : get_or r.samples (3 * f + 2) 0 < n = under_clock n r.samples up (3 * f + 2) b in omega arith))
    (λ (b : falling_before n r.samples ≤ 3 * f + 2). omega arith)
    (cases_lt (3 * f + 2) (falling_before n r.samples))

-- the samples so far are the levels of the bits that they are of
abbrev pub Taken : List Level → List Level → Type 0
Taken ls bits = (k j : ℕ) → j < 3 → 3 * k + j < length ls → slice_index_or ls (3 * k + j) Mark ≡ slice_index_or bits k Mark

taken_rest : (a b c : Level) (ls : List Level) (x : Level) (bits : List Level) → Taken (a ∷ (b ∷ (c ∷ ls))) (x ∷ bits) → Taken ls bits
taken_rest a b c ls x bits t k j three h =
    let at : 3 * suc k + j ≡ suc (suc (suc (3 * k + j))) = omega arith in
    subst (λ (i : ℕ). slice_index_or (a ∷ (b ∷ (c ∷ ls))) i Mark ≡ slice_index_or bits k Mark) at (t (suc k) j three (omega arith))

majority_same : (a b c x : Level) → a ≡ x → b ≡ x → c ≡ x → majority a b c ≡ x
majority_same a b c x p q s = ap₂ (λ (y z : Level). majority y z c) p q ∙ ap (λ (z : Level). majority x x z) s ∙ self x
  where
    self : (x : Level) → majority x x x ≡ x
    self Space = refl
    self Mark = refl

majority_taken : (a b c : Level) (ls bits : List Level) → Taken (a ∷ (b ∷ (c ∷ ls))) bits → majority a b c ≡ slice_index_or bits 0 Mark
majority_taken a b c ls bits t =
    majority_same a b c (slice_index_or bits 0 Mark) (t 0 0 (omega arith) (omega arith)) (t 0 1 (omega arith) (omega arith)) (t 0 2 (omega arith) (omega arith))

-- EACH BIT DECIDED IS THE BIT SENT
pub decided_all : (ls bits : List Level) → Taken ls bits → length ls ≡ 3 * length bits → decided ls ≡ bits
decided_all [] [] t e = refl
decided_all [] (x ∷ bits) t e = absurd (omega arith)
decided_all (a ∷ []) bits t e = absurd (omega arith)
decided_all (a ∷ (b ∷ [])) bits t e = absurd (omega arith)
decided_all (a ∷ (b ∷ (c ∷ ls))) [] t e = absurd (omega arith)
decided_all (a ∷ (b ∷ (c ∷ ls))) (x ∷ bits) t e =
    ap₂ {C = List Level} (λ y ys. y ∷ ys) (majority_taken a b c ls (x ∷ bits) t) (decided_all ls bits (taken_rest a b c ls x bits t) (omega arith))

pub decided_length : (ls : List Level) → (3 * length (decided ls) ≤ length ls) × (length ls < 3 * length (decided ls) + 3)
decided_length [] = omega arith
decided_length (a ∷ []) = omega arith
decided_length (a ∷ (b ∷ [])) = omega arith
decided_length (a ∷ (b ∷ (c ∷ ls))) = let h = decided_length ls in omega arith

pub decided_first : (ls bits : List Level) → Taken ls bits → (decided ls ≡ []) ⊎ ((rest : List Level) × (decided ls ≡ slice_index_or bits 0 Mark ∷ rest))
decided_first [] bits t = inl refl
decided_first (a ∷ []) bits t = inl refl
decided_first (a ∷ (b ∷ [])) bits t = inl refl
decided_first (a ∷ (b ∷ (c ∷ ls))) bits t =
    inr (decided ls, ap {B = List Level} (λ y. y ∷ decided ls) (majority_taken a b c ls bits t))

pub taken_more : (r : ReceiverState) → SoundReceiver r → (n : ℕ) (ls bits : List Level) (l : Level) → Taken ls bits → length ls ≡ falling_before n r.samples
    → ((k : ℕ) → Taking r n k → l ≡ slice_index_or bits k Mark)
    → Taken (ls ++ replicate (falling_on n r.samples) l) bits
taken_more r ok n ls bits l t e reads k j three h =
    let x : ℕ = falling_on n r.samples in
    let b : falling_before (suc n) r.samples ≡ falling_before n r.samples + x = before_more n r.samples in
    let a : length (ls ++ replicate x l) ≡ length ls + length (replicate x l) = length-append ls (replicate x l) in
    let y : length (replicate x l) ≡ x = length-replicate x l in
    ⊎_elim (λ (old : 3 * k + j < length ls). get_or_append_left ls (replicate x l) Mark (3 * k + j) old ∙ t k j three old)
    (λ (new : length ls ≤ 3 * k + j).
    get_or-append_right ls (replicate x l) (length ls) (3 * k + j) Mark refl new
    ∙ get_or-replicate x (3 * k + j - length ls) l Mark (omega arith)
    ∙ reads k (taking r ok n k j three (omega arith) (omega arith)))
    (cases_lt (3 * k + j) (length ls))

pub clocks_rising : (t : Timing) → Rising (sample_clocks t)
clocks_rising t = rising_all (sample_clocks t) (clocks_step t)

-- no sample falls on a clock before the first of them
none_on : (n : ℕ) (ss : List ℕ) → ((i : ℕ) → i < length ss → n < slice_index ss i) → falling_on n ss ≡ 0
none_on n [] later = refl
none_on n (s ∷ ss) later =
    let ih : falling_on n ss ≡ 0 = none_on n ss (λ i h. later (suc i) (omega arith)) in
    let l : n < s = later 0 (omega arith) in
    grind (arith, nat_tests)

pub none_from : (n : ℕ) (ss : List ℕ) → Rising ss → (i : ℕ) → (i < length ss → n < slice_index ss i) → falling_on n (drop i ss) ≡ 0
none_from n ss up i later = none_on n (drop i ss) (λ j h.
    let w : i + j < length ss = omega (arith, h, length-drop i ss) in
    omega (arith, get_or-drop i ss j 0, up i (i + j) (omega arith) w, later (omega arith)))

none_before : (n : ℕ) (ss : List ℕ) → ((i : ℕ) → i < length ss → n ≤ slice_index ss i) → falling_before n ss ≡ 0
none_before n [] from = refl
none_before n (s ∷ ss) from =
    let ih : falling_before n ss ≡ 0 = none_before n ss (λ i h. from (suc i) (omega arith)) in
    let l : n ≤ s = from 0 (omega arith) in
    grind (arith, nat_tests)

-- those that fall on a clock come after those that fall before it
pub on_after_before : (n : ℕ) (ss : List ℕ) → Rising ss → falling_on n (drop (falling_before n ss) ss) ≡ falling_on n ss
on_after_before n [] up = refl
on_after_before n (s ∷ ss) up = ⊎_elim
    (λ (l : s < n).
    let k : falling_before n (s ∷ ss) ≡ suc (falling_before n ss) = grind (arith, nat_tests) in
    let e : falling_on n (s ∷ ss) ≡ falling_on n ss = grind (arith, nat_tests) in
    ap (λ (m : ℕ). falling_on n (drop m (s ∷ ss))) k ∙ on_after_before n ss (rising_rest s ss up) ∙ sym e)
    (λ (g : n ≤ s).
    let z : falling_before n (s ∷ ss) ≡ 0 = none_before n (s ∷ ss) (λ i h. omega (arith, up 0 i (omega arith) h)) in
    ap (λ (m : ℕ). falling_on n (drop m (s ∷ ss))) z)
    (cases_lt s n)

-- one more sample falls on the clock
pub one_on : (n : ℕ) (ss : List ℕ) (i : ℕ) → i < length ss → slice_index ss i ≡ n → falling_on n (drop i ss) ≡ suc (falling_on n (drop (i + 1) ss))
one_on n ss i h e =
    ap (falling_on n) (drop_more ss i 0 h) ∙ here (slice_index ss i) e
  where
    here : (s : ℕ) → s ≡ n → falling_on n (s ∷ drop (i + 1) ss) ≡ suc (falling_on n (drop (i + 1) ss))
    here s e = grind (arith, nat_tests)

pub taken_length : (s : Samples) → length (taken s) ≡ s.count
taken_length s = length-take-le s.count s.levels (omega (arith, s.few, s.places))

-- the bits decided from bit k on
decided_from : (ls : List Level) (k : ℕ) → 3 * k + 2 < length ls
    → decided (drop (3 * k) ls) ≡ majority (slice_index_or ls (3 * k) Space) (slice_index_or ls (3 * k + 1) Space) (slice_index_or ls (3 * k + 2) Space) ∷ decided (drop (3 * (k + 1)) ls)
decided_from ls k h =
    let three : 3 * k + 1 + 1 + 1 ≡ 3 * (k + 1) = omega arith in
    let second : 3 * k + 1 + 1 ≡ 3 * k + 2 = omega arith in
    ap decided (drop_more ls (3 * k) Space (omega arith)
    ∙ ap {B = List Level} (λ l. slice_index_or ls (3 * k) Space ∷ l) (drop_more ls (3 * k + 1) Space (omega arith)
    ∙ ap {B = List Level} (λ l. slice_index_or ls (3 * k + 1) Space ∷ l) (drop_more ls (3 * k + 1 + 1) Space (omega arith)
    ∙ ap₂ {C = List Level} (λ i j. slice_index_or ls i Space ∷ drop j ls) second three)))

-- one bit more of them, by what a receiver holds
pub decided_more : (s : Samples) (k : ℕ) (b : Level) → 3 * k + 2 < s.count
    → b ≡ majority (slice_index_or s.levels (3 * k) Space) (slice_index_or s.levels (3 * k + 1) Space) (slice_index_or s.levels (3 * k + 2) Space)
    → decided (drop (3 * k) (taken s)) ≡ b ∷ decided (drop (3 * (k + 1)) (taken s))
decided_more s k b h e =
    let at : (i : ℕ) → i < s.count → slice_index_or (taken s) i Space ≡ get_or s.levels i Space = λ i l. get_or-take s.count s.levels i Space l in
    decided_from (taken s) k (omega (arith, h, taken_length s))
    ∙ ap {B = List Level} (λ x. x ∷ decided (drop (3 * (k + 1)) (taken s)))
    (ap₂ (λ (x y : Level). majority x y (slice_index_or (taken s) (3 * k + 2) Space)) (at (3 * k) (omega arith)) (at (3 * k + 1) (omega arith))
    ∙ ap (λ (z : Level). majority (slice_index_or s.levels (3 * k) Space) (slice_index_or s.levels (3 * k + 1) Space) z) (at (3 * k + 2) (omega arith))
    ∙ sym e)

-- after a clock, those that fall up to it have been taken
pub in_step : (t : Timing) (s u : Samples) (n : ℕ) (l : Level) → s.count ≡ falling_before n (sample_clocks t)
    → taken u ≡ taken_now (sample_clocks t) n (taken s) l → u.count ≡ falling_before (n + 1) (sample_clocks t)
in_step t s u n l before is =
    let on : ℕ = falling_on n (sample_clocks t) in
    let next : falling_before (suc n) (sample_clocks t) ≡ falling_before (n + 1) (sample_clocks t) = ap (λ (x : ℕ). falling_before x (sample_clocks t)) (one n) in
    omega (arith, before, ap length is, length-append (taken s) (replicate on l), length-replicate on l, taken_length s, taken_length u, before_more n (sample_clocks t), next)
  where
    one : (n : ℕ) → suc n ≡ n + 1
    one n = omega arith

pub not_past : (t : Timing) (s : Samples) (n : ℕ) → s.count ≡ falling_before n (sample_clocks t) → s.count ≤ samples_per_frame t.format
not_past t s n e = omega (arith, e, before_most n (sample_clocks t), clocks_length t)

-- while one is to come, the table has no later sample on the frame's clock than those that the frame uses
pub used_on_clock : (t : Timing) (n k : ℕ) → falling_before n (sample_clocks t) < samples_per_frame t.format → k < 36 → slice_index t.samples k ≡ n
    → k < samples_per_frame t.format
used_on_clock t n k left within on = ⊎_elim
    (λ (l : k < samples_per_frame t.format). l)
    (λ (g : samples_per_frame t.format ≤ k).
    let stop : ℕ = first_stop t.format in
    let last : 3 * stop + 2 < samples_per_frame t.format = omega arith in
    let up : Rising t.samples = rising_all t.samples (λ i h. t.rising i (omega (arith, h, t.all_samples))) in
    absurd (omega (
      arith,
      over_clock n (sample_clocks t) (clocks_rising t) (3 * stop + 2) (omega (arith, last, clocks_length t)) (omega (arith, left)),
      clock_at t (3 * stop + 2) last,
      t.apart stop (omega (arith, g, within)),
      up (3 * stop + 3) k (omega (arith, g)) (omega (arith, within, t.all_samples)),
      on,
    )))
    (cases_lt k (samples_per_frame t.format))

-- a frame's clock is before the last sample's while one is to come
pub clock_early : (t : Timing) (s : Samples) (n : ℕ) → s.count ≡ falling_before n (sample_clocks t) → s.count < samples_per_frame t.format → n < 1048576
clock_early t s n e h =
    omega (arith, over_clock n (sample_clocks t) (clocks_rising t) s.count (omega (arith, h, clocks_length t)) (omega (arith, e)), clock_at t s.count h, t.early s.count)

-- at most the start bit's samples fall on a frame's first clock
pub few_at_first : (t : Timing) → falling_before 1 (sample_clocks t) ≤ 3
few_at_first t = ⊎_elim
    (λ (more : 3 < falling_before 1 (sample_clocks t)).
    let within : 3 < samples_per_frame t.format = omega arith in
    absurd (omega (arith, under_clock 1 (sample_clocks t) (clocks_rising t) 3 more, clock_at t 3 within, t.apart 0 (omega arith))))
    (λ (few : falling_before 1 (sample_clocks t) ≤ 3). few)
    (cases_lt 3 (falling_before 1 (sample_clocks t)))
