-- Levels at which nothing happens: of a frame between its samples, and of an idle line that stays as it is.
use Rattle.std.proofs.Common.{◌≡◌, ℕ, zero, suc, ◌+◌, ◌-◌, ◌<◌, ◌≤◌, Bool, true, false, if◌then◌else◌, nat_le, List, [], ◌∷◌, ◌++◌, length, map, take, replicate, get_or, refl, ap, ◌∙◌, ⊎_elim, arith}
use Rattle.std.proofs.lemmas.List.{append-nil, map_more}
use Rattle.std.proofs.lemmas.Bool.{cases_lt}
use Rattle.std.proofs.lemmas.Bool.Decides.{nat_tests}
use Rattle.line.specs.declared.level.Level.{Level}
use Rattle.line.specs.declared.level.Level.TheVariants.{Space, Mark}
use Rattle.line.specs.declared.format.Format.{Format}
use Rattle.line.specs.Frames.{first_stop}
use Rattle.line.specs.Levels.{level_of, byte_of}
use Rattle.ends.specs.Receiver.{ReceiverState, Entry, Heard, idle, framing, nothing, hears, heard_in_frame, after_frame, entry_of, decided, going_on, arrive, after_clock, taken_now, falling_on, falling_before, with}
use Rattle.ends.specs.Runs.{after_levels, taken_down}
use Rattle.ends.proofs.Sampling.{Rising, before_more, under_clock}

-- the level of the line after some levels
abbrev pub last_of : Level → List Level → Level
last_of p [] = p
last_of p (l ∷ ls) = last_of l ls

pub last_level : (p : Level) (bs : List ℕ) → 0 < length bs → last_of p (map level_of bs) ≡ level_of (get_or bs (length bs - 1) 0)
last_level p [] h = absurd (omega arith)
last_level p (b ∷ []) h = refl
last_level p (b ∷ (x ∷ bs)) h = last_level (level_of b) (x ∷ bs) (omega arith) ∙ ap (λ (i : ℕ). level_of (get_or (b ∷ (x ∷ bs)) i 0)) (later (length bs))
  where
    later : (n : ℕ) → suc (suc n - 1) ≡ suc (suc n) - 1
    later n = omega arith

pub one_more_level : (r : ReceiverState) (ls : List Level) (l : Level) → after_levels r (ls ++ l ∷ []) ≡ after_clock (after_levels r ls) l
one_more_level r [] l = refl
one_more_level r (x ∷ ls) l = one_more_level (after_clock r x) ls l

-- the byte after the first k, and the receiver after them
pub next_heard : (r u : ReceiverState) (bs : List ℕ) (k : ℕ) → k < length bs → after_levels r (map level_of (take k bs)) ≡ u
    → after_levels r (map level_of (take (k + 1) bs)) ≡ after_clock u (level_of (get_or bs k 0))
next_heard r u bs k h is =
    let l : Level = level_of (get_or bs k 0) in
    ap (λ (ls : List Level). after_levels r ls) (map_more level_of bs k 0 h)
    ∙ one_more_level r (map level_of (take k bs)) l
    ∙ ap (λ (x : ReceiverState). after_clock x l) is

-- what a clock of a frame comes to, by whether the frame is over
abbrev comes_to : List Level → ℕ → Bool → List Level → Entry → Heard
comes_to ls n over bs e = if over then record { doing = after_frame e; arrived = e ∷ [] } else nothing (going_on bs n ls)

-- a frame that a clock without a sample leaves as it is, is left so by any such clock
pub left_at : (f : Format) (n k : ℕ) (ls : List Level) → heard_in_frame f n ls ≡ nothing (framing n ls) → heard_in_frame f k ls ≡ nothing (framing k ls)
left_at f n k ls is = go (nat_le (1 + first_stop f) (length (decided ls))) (decided ls) (entry_of f (decided ls)) is
  where
    go : (over : Bool) (bs : List Level) (e : Entry) → comes_to ls n over bs e ≡ nothing (framing n ls) → comes_to ls k over bs e ≡ nothing (framing k ls)
    go true bs e is = let came : e ∷ [] ≡ [] = ap (λ (h : Heard). h.arrived) is in cc
    go false [] e is = refl
    go false (Space ∷ bs) e is = refl
    go false (Mark ∷ bs) e is = let dropped : idle ≡ framing n ls = ap (λ (h : Heard). h.doing) is in cc

before_later : (n k : ℕ) (ss : List ℕ) → falling_before n ss ≤ falling_before (n + k) ss
before_later n k [] = omega arith
before_later n k (s ∷ ss) = let h = before_later n k ss in grind (arith, nat_tests)

-- k clocks after clock n of a frame, before the clock of its next sample
pub record Between (ss : List ℕ) (n k : ℕ) : Type 0 where
  pub rising : Rising ss
  pub unended : falling_before (n + 1) ss < length ss
  pub ahead : n + k < get_or ss (falling_before (n + 1) ss) 0

-- no more samples have fallen
pub same_before : (ss : List ℕ) (n k : ℕ) → Between ss n k → falling_before (n + k + 1) ss ≡ falling_before (n + 1) ss
same_before ss n k b =
    let i : ℕ = falling_before (n + 1) ss in
    let low : i ≤ falling_before (n + 1 + k) ss = before_later (n + 1) k ss in
    let same : falling_before (n + 1 + k) ss ≡ falling_before (n + k + 1) ss = ap (λ (m : ℕ). falling_before m ss) (omega arith) in
    ⊎_elim
    (λ (more : i < falling_before (n + k + 1) ss). absurd (omega (arith, under_clock (n + k + 1) ss b.rising i more, b.ahead)))
    (λ (most : falling_before (n + k + 1) ss ≤ i). omega (arith, low, same, most))
    (cases_lt i (falling_before (n + k + 1) ss))

one_later : (ss : List ℕ) (n k : ℕ) → Between ss n (suc k) → Between ss (n + 1) k
one_later ss n k b =
    let one : Between ss n 1 = record { rising = b.rising; unended = b.unended; ahead = omega (arith, b.ahead) } in
    let same : falling_before (n + 1 + 1) ss ≡ falling_before (n + 1) ss = same_before ss n 1 one in
    record {
      rising = b.rising;
      unended = omega (arith, same, b.unended);
      ahead = omega (arith, b.ahead, ap (λ (i : ℕ). get_or ss i 0) same);
    }

none_falls : (ss : List ℕ) (n k : ℕ) → Between ss n (suc k) → falling_on (n + 1) ss ≡ 0
none_falls ss n k b =
    let one : Between ss n 1 = record { rising = b.rising; unended = b.unended; ahead = omega (arith, b.ahead) } in
    let next : falling_before (suc (n + 1)) ss ≡ falling_before (n + 1 + 1) ss = ap (λ (m : ℕ). falling_before m ss) (omega arith) in
    omega (arith, same_before ss n 1 one, before_more (n + 1) ss, next)

-- what comes of levels at which nothing happens
pub record Passed (r u : ReceiverState) (ls : List Level) : Type 0 where
  pub state : after_levels r ls ≡ u
  pub quiet : taken_down r ls ≡ []

-- a frame between two of its samples
pub frame_passes : (r : ReceiverState) (us : List Entry) (p : Level) (n : ℕ) (xs ls : List Level)
    → heard_in_frame r.format n xs ≡ nothing (framing n xs) → Between r.samples n (length ls)
    → Passed (with r us p (framing n xs)) (with r us (last_of p ls) (framing (n + length ls) xs)) ls
frame_passes r us p n xs [] going b = record { state = ap (λ (m : ℕ). with r us p (framing m xs)) (none n); quiet = refl }
  where
    none : (n : ℕ) → n ≡ n + 0
    none n = omega arith
frame_passes r us p n xs (l ∷ ls) going b =
    let here : heard_in_frame r.format (n + 1) (taken_now r.samples (n + 1) xs l) ≡ nothing (framing (n + 1) xs) =
    ap (λ (m : ℕ). heard_in_frame r.format (n + 1) (xs ++ replicate m l)) (none_falls r.samples n (length ls) b)
    ∙ ap (λ (x : List Level). heard_in_frame r.format (n + 1) x) (append-nil xs)
    ∙ left_at r.format n (n + 1) xs going in
    let rest = frame_passes r us l (n + 1) xs ls (left_at r.format n (n + 1) xs going) (one_later r.samples n (length ls) b) in
    record {
      state = ap {B = ReceiverState} (λ h. after_levels (with r (arrive r.capacity us h.arrived) l h.doing) ls) here
          ∙ rest.state
          ∙ ap (λ (m : ℕ). with r us (last_of l ls) (framing m xs)) (later n (length ls));
      quiet = ap {B = List Entry} (λ h. h.arrived ++ taken_down (with r (arrive r.capacity us h.arrived) l h.doing) ls) here ∙ rest.quiet;
    }
  where
    later : (n k : ℕ) → n + 1 + k ≡ n + suc k
    later n k = omega arith

-- an idle line that stays as it is
pub idle_passes : (r : ReceiverState) (us : List Entry) (p : Level) (k : ℕ) → Passed (with r us p idle) (with r us p idle) (replicate k p)
idle_passes r us p zero = record { state = refl; quiet = refl }
idle_passes r us p (suc k) =
    let rest = idle_passes r us p k in
    record {
      state = ap {B = ReceiverState} (λ h. after_levels (with r (arrive r.capacity us h.arrived) p h.doing) (replicate k p)) (still p) ∙ rest.state;
      quiet = ap {B = List Entry} (λ h. h.arrived ++ taken_down (with r (arrive r.capacity us h.arrived) p h.doing) (replicate k p)) (still p) ∙ rest.quiet;
    }
  where
    still : (p : Level) → hears (with r us p idle) p ≡ nothing idle
    still Space = refl
    still Mark = refl

-- the levels of equal bytes
pub equal_levels : (bs : List ℕ) (k : ℕ) (p : Level) → k ≤ length bs → ((i : ℕ) → i < k → get_or bs i 0 ≡ byte_of p) → map level_of (take k bs) ≡ replicate k p
equal_levels bs zero p h equal = refl
equal_levels [] (suc k) p h equal = absurd (omega arith)
equal_levels (b ∷ bs) (suc k) p h equal =
    ap {B = List Level} (λ x. level_of x ∷ map level_of (take k bs)) (equal 0 (omega arith))
    ∙ ap {B = List Level} (λ l. l ∷ map level_of (take k bs)) (its p)
    ∙ ap {B = List Level} (λ ls. p ∷ ls) (equal_levels bs k p (omega arith) (λ i l. equal (suc i) (omega arith)))
  where
    its : (p : Level) → level_of (byte_of p) ≡ p
    its Space = refl
    its Mark = refl
