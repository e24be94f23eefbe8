-- A level is taken down for each sample that falls on the clock, and for no other.
use Rattle.std.proofs.Common.{◌≡◌, ◌≢◌, ℕ, zero, suc, ◌+◌, ◌<◌, ◌≤◌, Bool, true, false, List, [], ◌∷◌, ◌++◌, length, drop, replicate, Some, Option, sym, ap, ◌∙◌, ap₂, arith, nat_eq}
use Rattle.std.specs.Option.{option_eq}
use Rattle.std.specs.List.{slice_get}
use Rattle.std.specs.Prelude.{slice_index}
use Rattle.std.proofs.lemmas.List.{append_assoc, append-nil}
use Rattle.std.proofs.lemmas.Bool.Decides.{nat_tests}
use Rattle.line.specs.declared.level.Level.{Level}
use Rattle.ends.specs.declared.timing.Timing.{Timing}
use Rattle.ends.specs.Receiver.{falling_on, falling_before, taken_now}
use Rattle.ends.specs.Times.{samples_per_frame}
use Rattle.ends.specs.Timed.{sample_clocks}
use Rattle.ends.specs.Soundness.{samples_used, clocks_length, clock_at}
use Rattle.ends.specs.Samples.{taken}
use Rattle.ends.proofs.Sampling.{clocks_rising, none_from, on_after_before, one_on, over_clock, used_on_clock}
use Rattle.ends.proofs.samples.Samples.take_down.Goals as goal

abbrev falls : List ℕ → ℕ → ℕ → Bool
falls ss k n = option_eq nat_eq (slice_get ss k) (Some n)

-- sample k falls on clock n
on_clock : (ss : List ℕ) (k n : ℕ) → falls ss k n ≡ true → (k < length ss) × (slice_index ss k ≡ n)
on_clock [] k n h = cc
on_clock (s ∷ ss) zero n h = (omega arith, grind (arith, nat_tests))
on_clock (s ∷ ss) (suc k) n h = let x = on_clock ss k n h in (omega (arith, x.0), x.1)

off_clock : (ss : List ℕ) (k n : ℕ) → falls ss k n ≡ false → k < length ss → slice_index ss k ≢ n
off_clock [] k n h within = absurd (omega arith)
off_clock (s ∷ ss) zero n h within = grind (arith, nat_tests)
off_clock (s ∷ ss) (suc k) n h within = off_clock ss k n h (omega arith)

tested : (ss : List ℕ) (k n : ℕ) (o : Option ℕ) (e b : Bool) → o ≡ slice_get ss k → e ≡ option_eq nat_eq o (Some n) → e ≡ b → falls ss k n ≡ b
tested ss k n o e b is test t = sym (ap (λ (x : Option ℕ). option_eq nat_eq x (Some n)) is) ∙ sym test ∙ t

-- no more samples fall on the clock, so all that do have been taken
all_taken : (t : Timing) (n k i : ℕ) (before now : List Level) (l : Level) → i ≡ falling_before n (sample_clocks t) → i ≤ k
    → falls t.samples k n ≡ false
    → now ++ replicate (falling_on n (drop k (sample_clocks t))) l ≡ before ++ replicate (falling_on n (drop i (sample_clocks t))) l
    → now ≡ taken_now (sample_clocks t) n before l
all_taken t n k i before now l e from off inv =
    let ss : List ℕ = sample_clocks t in
    let past : k < length ss → n < slice_index ss k = λ h.
    let used : k < samples_per_frame t.format = omega (arith, h, clocks_length t) in
    omega (arith, over_clock n ss (clocks_rising t) k h (omega arith), clock_at t k used, off_clock t.samples k n off (omega (arith, used, samples_used t, t.all_samples))) in
    let none : falling_on n (drop k ss) ≡ 0 = none_from n ss (clocks_rising t) k past in
    let all : falling_on n (drop i ss) ≡ falling_on n ss = ap (λ (m : ℕ). falling_on n (drop m ss)) e ∙ on_after_before n ss (clocks_rising t) in
    sym (append-nil now) ∙ sym (ap {B = List Level} (λ m. now ++ replicate m l) none) ∙ inv ∙ ap {B = List Level} (λ m. before ++ replicate m l) all

pub loop-some-preserved : goal.loop-some-preserved
loop-some-preserved c =
    let t = c.args.timing.now in
    let ss : List ℕ = sample_clocks t in
    let n : ℕ = c.args.clock in
    let k : ℕ = c.loop-some.self.count in
    let l : Level = c.args.level in
    let on = on_clock t.samples k n (tested t.samples k n c.in_table.result c.eq.result true c.in_table.ensures c.eq.ensures c.loop-some-test.true) in
    let used = used_on_clock t n k (omega (arith, c.requires.in_step, c.requires.unended)) (omega (arith, on.0, t.all_samples)) on.1 in
    let rest : ℕ = falling_on n (drop (k + 1) ss) in
    let one : falling_on n (drop k ss) ≡ suc rest = one_on n ss k (omega (arith, used, clocks_length t)) (clock_at t k used ∙ on.1) in
    let count : c.push.new.self.count ≡ k + 1 = c.push.ensures.count in (
      omega arith,
      λ e. cc,
      ap₂ {C = List Level} (λ ls m. ls ++ replicate (falling_on n (drop m ss)) l) c.push.ensures.taken count
          ∙ append_assoc (taken c.loop-some.self) (l ∷ []) (replicate rest l)
          ∙ sym (ap {B = List Level} (λ m. taken c.loop-some.self ++ replicate m l) one)
          ∙ c.loop-some.invariant.2,
    )

pub returns-clause-taken : goal.returns-clause-taken
returns-clause-taken c =
    let t = c.args.timing.now in
    let k : ℕ = c.loop-some.self.count in
    all_taken t c.args.clock k c.args.self.now.count (taken c.args.self.now) (taken c.loop-some.self) c.args.level c.requires.in_step c.loop-some.invariant.0
    (tested t.samples k c.args.clock c.in_table.result c.eq.result false c.in_table.ensures c.eq.ensures c.loop-some-test.false) c.loop-some.invariant.2
