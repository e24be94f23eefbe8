-- The rates at which Fit passes have no gaps.
use Rattle.std.proofs.Common.{◌≡◌, ℕ, ◌+◌, ◌-◌, ◌≤◌, Bool, true, false, if◌then◌else◌, ◌&&◌, Ok, Err, refl, mul-le-mul_left, arith}
use Rattle.std.proofs.lemmas.Bool.Decides.{nat_tests}
use Rattle.line.specs.declared.refusal.Refusal.TheVariants.{OutOfRange, FormatsDiffer}
use Rattle.line.specs.Formats.{agree}
use Rattle.line.specs.Frames.{first_stop}
use Rattle.ends.specs.Times.{start_of}
use Rattle.ends.specs.Sender.{SenderState}
use Rattle.ends.specs.Receiver.{ReceiverState, first_sample, third_sample}
use Rattle.link.specs.declared.rates.Verdict.{Verdict}
use Rattle.link.specs.declared.rates.Verdict.TheVariants.{Passes, Early as IsEarly, Late as IsLate}
use Rattle.link.specs.Fit.{Fits}
use Rattle.link.specs.Judging.{judged, rate_in_range, fit_answer}
use Rattle.link.proofs.Judging.{passes_fits, fits_passes}
use Rattle.link.specs.declared.rates.Rates.{Rates}
use Rattle.sheet.specs.declared.tolerance.Off.{Off}
use Rattle.sheet.specs.declared.tolerance.Off.TheVariants.{Sender, Receiver}
use Rattle.sheet.specs.Tolerance.{is_pass, passes_at, UpTo, DownTo}

-- what Fit needs to pass
pub record Passing (s : SenderState) (r : ReceiverState) (a b : ℕ) : Type 0 where
  pub send : rate_in_range a ≡ true
  pub receive : rate_in_range b ≡ true
  pub agreed : agree s.format r.format ≡ true
  pub fits : Fits s r a b

module _ (s : SenderState) (r : ReceiverState) where
  passing : (a b : ℕ) → is_pass (fit_answer s r a b) ≡ true → Passing s r a b
  passing a b = go (rate_in_range a) refl (rate_in_range b) refl (agree s.format r.format) refl (judged s r a b 0 (1 + first_stop r.format)) refl
    where
      go : (x : Bool) → rate_in_range a ≡ x → (y : Bool) → rate_in_range b ≡ y → (z : Bool) → agree s.format r.format ≡ z
          → (v : Verdict) → judged s r a b 0 (1 + first_stop r.format) ≡ v
          → is_pass (if x && y then (if z then Ok v else Err FormatsDiffer) else Err OutOfRange) ≡ true → Passing s r a b
      go true ax true by true same Passes is h = record { send = ax; receive = by; agreed = same; fits = passes_fits s r a b is }
      go true ax true by true same (IsEarly k) is h = cc
      go true ax true by true same (IsLate k) is h = cc
      go true ax true by false same v is h = cc
      go true ax false by z same v is h = cc
      go false ax y by z same v is h = cc

  passes : (a b : ℕ) → Passing s r a b → is_pass (fit_answer s r a b) ≡ true
  passes a b p = simp (p.send, p.receive, p.agreed, fits_passes s r a b p.fits)

  -- between two rates of the receiver's clock that fit, all fit; and so for the sender's
  between_receive : (a b c n : ℕ) → b ≤ n → n ≤ c → Fits s r a b → Fits s r a c → Fits s r a n
  between_receive a b c n low high at_low at_high k h = (
    (λ early. (at_high k h).0 (omega (arith, early, mul-le-mul_left (start_of s.lengths k) high))),
    (λ late. (at_low k h).1 (omega (arith, late, mul-le-mul_left (start_of s.lengths (k + 1)) low))),
  )

  between_send : (a b c n : ℕ) → a ≤ n → n ≤ c → Fits s r a b → Fits s r c b → Fits s r n b
  between_send a b c n low high at_low at_high k h = (
    (λ early. (at_low k h).0 (omega (arith, early, mul-le-mul_left (first_sample r k) low))),
    (λ late. (at_high k h).1 (omega (arith, late, mul-le-mul_left (third_sample r k + 1) high))),
  )

between_range : (b c n : ℕ) → rate_in_range b ≡ true → rate_in_range c ≡ true → b ≤ n → n ≤ c → rate_in_range n ≡ true
between_range b c n at_low at_high low high = grind (arith, nat_tests)

pub no_gaps : (s : SenderState) (r : ReceiverState) (q : Rates) (o : Off) (b c n : ℕ) → passes_at s r q o b ≡ true → passes_at s r q o c ≡ true → b ≤ n → n ≤ c
    → passes_at s r q o n ≡ true
no_gaps s r q Sender b c n at_low at_high low high =
    let x = passing s r b q.receive at_low in
    let y = passing s r c q.receive at_high in
    passes s r n q.receive (record {
      send = between_range b c n x.send y.send low high;
      receive = x.receive;
      agreed = x.agreed;
      fits = between_send s r b q.receive c n low high x.fits y.fits;
    })
no_gaps s r q Receiver b c n at_low at_high low high =
    let x = passing s r q.send b at_low in
    let y = passing s r q.send c at_high in
    passes s r q.send n (record {
      send = x.send;
      receive = between_range b c n x.receive y.receive low high;
      agreed = x.agreed;
      fits = between_receive s r q.send b c n low high x.fits y.fits;
    })

-- so it passes all the way between a rate and the last one
module _ (s : SenderState) (r : ReceiverState) (q : Rates) (o : Off) (from to : ℕ) (at_from : passes_at s r q o from ≡ true) (at_to : passes_at s r q o to ≡ true) where
  pub up_to : from ≤ to → passes_at s r q o (to + 1) ≡ false → UpTo (passes_at s r q o) from to
  up_to above beyond = record { above = above; within = λ n low high. no_gaps s r q o from to n at_from at_to low high; beyond = beyond }

  pub down_to : to ≤ from → passes_at s r q o (to - 1) ≡ false → DownTo (passes_at s r q o) from to
  down_to below beyond = record { below = below; within = λ n low high. no_gaps s r q o to from n at_to at_from low high; beyond = beyond }

-- a rate at which Fit passes is in range
pub in_range : (s : SenderState) (r : ReceiverState) (q : Rates) (o : Off) (n : ℕ) → passes_at s r q o n ≡ true → (1 ≤ n) × (n ≤ 16777216)
in_range s r q o n ok = go o ok
  where
    bounds : rate_in_range n ≡ true → (1 ≤ n) × (n ≤ 16777216)
    bounds e = grind (arith, nat_tests)

    go : (o : Off) → passes_at s r q o n ≡ true → (1 ≤ n) × (n ≤ 16777216)
    go Sender e = bounds (passing s r n q.receive e).send
    go Receiver e = bounds (passing s r q.send n e).receive
