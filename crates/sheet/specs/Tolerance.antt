-- At which rates of one of two clocks Fit passes.
use Rattle.std.specs.Prelude.{◌≡◌, ℕ, ◌+◌, ◌-◌, ◌≤◌, Bool, true, false, Ok, Err, Result, Option, MatchOption}
use Rattle.line.specs.declared.refusal.Refusal.{Refusal}
use Rattle.ends.specs.Sender.{SenderState}
use Rattle.ends.specs.Receiver.{ReceiverState}
use Rattle.link.specs.declared.rates.Verdict.{Verdict}
use Rattle.link.specs.declared.rates.Verdict.TheVariants.{Passes, Early, Late}
use Rattle.link.specs.Judging.{fit_answer}
use Rattle.link.specs.declared.rates.Rates.{Rates}
use Rattle.sheet.specs.declared.tolerance.Off.{Off}
use Rattle.sheet.specs.declared.tolerance.Off.TheVariants.{Sender, Receiver}
use Rattle.sheet.specs.declared.tolerance.Tolerance.{Tolerance}

abbrev pub own_rate : Rates → Off → ℕ
own_rate q Sender = q.send
own_rate q Receiver = q.receive

abbrev pub is_pass : Result Verdict Refusal → Bool
is_pass (Ok Passes) = true
is_pass (Ok (Early k)) = false
is_pass (Ok (Late k)) = false
is_pass (Err e) = false

-- whether Fit passes when the clock of this end has rate n
abbrev pub passes_at : SenderState → ReceiverState → Rates → Off → ℕ → Bool
passes_at s r q Sender n = is_pass (fit_answer s r n q.receive)
passes_at s r q Receiver n = is_pass (fit_answer s r q.send n)

-- so of two ends and their rates, by what the ends mean
abbrev pub passes_of : {S R : Type 0} → (S → SenderState) → (R → ReceiverState) → Tolerance S R → ℕ → Bool
passes_of sends hears t = passes_at (sends t.sender.now) (hears t.receiver.now) t.rates t.off

-- a test holds of every whole number from one up to another, and not of the next
pub record UpTo (test : ℕ → Bool) (from to : ℕ) : Type 0 where
  pub above : from ≤ to
  pub within : (n : ℕ) → from ≤ n → n ≤ to → test n ≡ true
  pub beyond : test (to + 1) ≡ false

-- a test holds of every whole number from one down to another, and not of the one below
pub record DownTo (test : ℕ → Bool) (from to : ℕ) : Type 0 where
  pub below : to ≤ from
  pub within : (n : ℕ) → to ≤ n → n ≤ from → test n ≡ true
  pub beyond : test (to - 1) ≡ false

-- the highest rate of the clock that is off up to which Fit passes, counted from the one that it should have; none where Fit does not pass there
abbrev pub Highest : {S R : Type 0} → (S → SenderState) → (R → ReceiverState) → Tolerance S R → Option ℕ → Type 0
Highest sends hears t o = MatchOption o (passes_of sends hears t (own_rate t.rates t.off) ≡ false) (λ h. UpTo (passes_of sends hears t) (own_rate t.rates t.off) h)

-- so the lowest
abbrev pub Lowest : {S R : Type 0} → (S → SenderState) → (R → ReceiverState) → Tolerance S R → Option ℕ → Type 0
Lowest sends hears t o = MatchOption o (passes_of sends hears t (own_rate t.rates t.off) ≡ false) (λ h. DownTo (passes_of sends hears t) (own_rate t.rates t.off) h)
