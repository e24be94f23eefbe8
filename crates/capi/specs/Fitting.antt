-- What Fit answers, by the plain numbers of two ends.
use Rattle.std.specs.Prelude.{◌≡◌, ℕ, IfOk, Result}
use Rattle.line.specs.declared.refusal.Refusal.{Refusal}
use Rattle.ends.specs.Sender.{SenderState}
use Rattle.ends.specs.Receiver.{ReceiverState}
use Rattle.link.specs.declared.rates.Verdict.{Verdict}
use Rattle.link.specs.declared.rates.Verdict.TheVariants.{Passes, Early, Late}
use Rattle.link.specs.Judging.{fit_answer}
use Rattle.link.specs.Fit.{Meets, SteadyDelivers}
use Rattle.capi.specs.declared.numbers.EndNumbers.{EndNumbers}
use Rattle.capi.specs.declared.numbers.VerdictNumbers.{VerdictNumbers}
use Rattle.capi.specs.Settings.{and_then, ends_at}

abbrev pub told_verdict : Verdict → VerdictNumbers
told_verdict Passes = record { verdict = 0; bit = 0 }
told_verdict (Early k) = record { verdict = 1; bit = k }
told_verdict (Late k) = record { verdict = 2; bit = k }

abbrev pub fit_result : EndNumbers → EndNumbers → ℕ → ℕ → Result Verdict Refusal
fit_result s r a b = and_then (ends_at s r) (λ p. fit_answer p.0 p.1 a b)

-- it passes exactly where steady clocks at the rates meet the sampling condition
abbrev pub ExactlyAt : ℕ → ℕ → Result Verdict Refusal → SenderState × ReceiverState → Type 0
ExactlyAt a b r p = IfOk r (λ f. (f ≡ Passes → Meets p.0 p.1 a b) × (Meets p.0 p.1 a b → f ≡ Passes))

abbrev pub Exactly : EndNumbers → EndNumbers → ℕ → ℕ → Result Verdict Refusal → Type 0
Exactly s r a b v = IfOk (ends_at s r) (ExactlyAt a b v)

-- where it passes, steady clocks at the rates deliver
abbrev pub DeliveringAt : ℕ → ℕ → Result Verdict Refusal → SenderState × ReceiverState → Type 0
DeliveringAt a b r p = IfOk r (λ f. f ≡ Passes → SteadyDelivers p.0 p.1 a b)

abbrev pub Delivering : EndNumbers → EndNumbers → ℕ → ℕ → Result Verdict Refusal → Type 0
Delivering s r a b v = IfOk (ends_at s r) (DeliveringAt a b v)
