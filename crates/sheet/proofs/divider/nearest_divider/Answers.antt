-- The rounded quotient is nearest.
use Rattle.std.proofs.Common.{◌≡◌, ℕ, ◌*◌, Ok, Result, MatchResult, subst, sym, rules}
use Rattle.line.specs.declared.refusal.Refusal.{Refusal}
use Rattle.line.specs.declared.refusal.Refusal.TheVariants.{OutOfRange}
use Rattle.sheet.specs.Divider.{Nearest, rounded}
use Rattle.sheet.proofs.Dividing.{rounds}
use Rattle.sheet.proofs.divider.nearest_divider.Goals as goal

pub returns-clause-law : goal.returns-clause-law
returns-clause-law c =
    let h : ℕ = c.from.result in
    let b : ℕ = c.from-unit.result in
    let law : Nearest c.args.hertz c.args.baud (rounded h (16 * b)) = subst (λ (y : ℕ). Nearest c.args.hertz y (rounded h (16 * b))) c.from-unit.ensures
    (subst (λ (x : ℕ). Nearest x b (rounded h (16 * b))) c.from.ensures (rounds h (16 * b) c.if-unit-eq0.false)) in
    let is : c.map_err.result ≡ Ok (rounded h (16 * b)) = search rules in
    subst (λ (r : Result ℕ Refusal). MatchResult r (λ d. Nearest c.args.hertz c.args.baud d) (λ e. e ≡ OutOfRange)) (sym is) law
