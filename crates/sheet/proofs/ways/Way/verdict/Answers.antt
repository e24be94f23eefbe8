-- What Fit says of two ends at rest, it says of the way.
use Rattle.std.proofs.Common.{ap}
use Rattle.link.specs.declared.rates.Rates.{Rates}
use Rattle.sheet.proofs.ways.Way.verdict.Goals as goal

pub returns-clause-exactly : goal.returns-clause-exactly
returns-clause-exactly c =
    rw (← c.sender.ensures, ← c.receiver.ensures, ← ap (λ (q : Rates). q.send) c.rates.ensures, ← ap (λ (q : Rates). q.receive) c.rates.ensures) c.fit.ensures.exactly

pub returns-clause-delivers : goal.returns-clause-delivers
returns-clause-delivers c =
    rw (← c.sender.ensures, ← c.receiver.ensures, ← ap (λ (q : Rates). q.send) c.rates.ensures, ← ap (λ (q : Rates). q.receive) c.rates.ensures) c.fit.ensures.delivers
