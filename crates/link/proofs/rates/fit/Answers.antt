-- Fit passes exactly where steady clocks meet the sampling condition.
use Rattle.std.proofs.Common.{◌≡◌, ℕ, ◌<◌, true, ◌&&◌, sym, ◌∙◌, arith}
use Rattle.std.proofs.lemmas.Bool.Decides.{nat_tests}
use Rattle.link.specs.Judging.{rate_in_range}
use Rattle.link.proofs.Fitting.{fitting, steady_delivers}
use Rattle.link.proofs.Judging.{passes_fits, fits_passes}
use Rattle.link.proofs.rates.fit.Goals as goal

some_rates : (a b : ℕ) → true ≡ rate_in_range a && rate_in_range b → (0 < a) × (0 < b)
some_rates a b e = grind (arith, nat_tests)

pub returns-clause-exactly : goal.returns-clause-exactly
returns-clause-exactly g c =
    let s = g.S.Sender.meaning c.args.sender.now in
    let r = g.R.Receiver.meaning c.args.receiver.now in
    let a : ℕ = c.args.rates.send in
    let b : ℕ = c.args.rates.receive in
    let some = some_rates a b c.if-not-in_range.ensures in
    let law = fitting s r a b (g.met.S.Sender.sound c.args.sender.now) some.0 some.1 in
    ((λ e. law.0 (passes_fits s r a b (sym c.judge.ensures ∙ e))), (λ meets. c.judge.ensures ∙ fits_passes s r a b (law.1 meets)))

pub returns-clause-delivers : goal.returns-clause-delivers
returns-clause-delivers g c =
    let s = g.S.Sender.meaning c.args.sender.now in
    let r = g.R.Receiver.meaning c.args.receiver.now in
    let a : ℕ = c.args.rates.send in
    let b : ℕ = c.args.rates.receive in
    λ e. steady_delivers s r a b (some_rates a b c.if-not-in_range.ensures).1 (passes_fits s r a b (sym c.judge.ensures ∙ e))
