-- Each bit comes in below those above it, as the lowest digit.
use Rattle.std.proofs.Common.{◌≡◌, ℕ, suc, ◌+◌, ◌-◌, ◌*◌, ◌^◌, ◌<◌, ◌≤◌, ◌∷◌, get_or, drop, sym, ap, ◌∙◌, pow-suc, arith}
use Rattle.line.specs.declared.level.Level.{Level}
use Rattle.line.specs.declared.level.Level.TheVariants.{Space, Mark}
use Rattle.line.specs.Levels.{number, byte_of}
use Rattle.ends.specs.declared.samples.Samples.{Samples}
use Rattle.ends.specs.Receiver.{majority, decided}
use Rattle.ends.specs.Samples.{taken}
use Rattle.ends.proofs.Sampling.{decided_more}
use Rattle.ends.proofs.samples.Samples.digits.Goals as goal

-- a turn of the loop: the bit below comes in as the lowest digit
turn : (s : Samples) (bits k d : ℕ) (b : Level) → s.count ≡ 3 * bits → 0 < k → k ≤ bits
    → b ≡ majority (get_or s.levels (3 * (k - 1)) Space) (get_or s.levels (3 * (k - 1) + 1) Space) (get_or s.levels (3 * (k - 1) + 2) Space)
    → d ≡ number (decided (drop (3 * k) (taken s))) → d < 2 ^ (bits - k)
    → (2 * d + byte_of b ≡ number (decided (drop (3 * (k - 1)) (taken s)))) × (2 * d + byte_of b < 2 ^ (bits - (k - 1)))
turn s bits k d b count some most is value bound =
    let back : k - 1 + 1 ≡ k = omega arith in
    let power : 2 ^ (bits - (k - 1)) ≡ 2 ^ (bits - k) * 2 = ap (λ (x : ℕ). 2 ^ x) (longer bits k some most) ∙ pow-suc 2 (bits - k) in
    (low b ∙ sym (ap number (decided_more s (k - 1) b (omega arith) is) ∙ ap (λ (x : ℕ). number (b ∷ decided (drop (3 * x) (taken s)))) back), omega (arith, power, digit_most b))
  where
    longer : (bits k : ℕ) → 0 < k → k ≤ bits → bits - (k - 1) ≡ suc (bits - k)
    longer bits k some most = omega arith

    low : (b : Level) → 2 * d + byte_of b ≡ number (b ∷ decided (drop (3 * k) (taken s)))
    low Space = omega (arith, value)
    low Mark = omega (arith, value)

    digit_most : (b : Level) → byte_of b ≤ 1
    digit_most Space = omega arith
    digit_most Mark = omega arith

pub loop-k-preserved : goal.loop-k-preserved
loop-k-preserved c =
    let t = turn c.args.self.now c.args.bits c.loop-k.k c.loop-k.digits c.bit.result c.requires c.loop-k-test.true c.loop-k.auto.k c.bit.ensures c.loop-k.invariant.0 c.loop-k.invariant.1 in
    let digit : c.from-in-loop-k.result ≡ byte_of c.bit.result = c.from-in-loop-k.ensures ∙ c.from.ensures in
    (omega (arith, digit, t.0), omega (arith, digit, t.1))
