-- The first places hold what the entries found so far give, one each, and those to come follow.
use Rattle.std.proofs.Common.{◌≡◌, length}
use Rattle.ends.specs.BareReceiver.{meant}
use Rattle.ends.specs.Runs.{taken_down}
use Rattle.picture.specs.Scanning.{levels, after_listed}
use Rattle.picture.proofs.Listing.{Partly}
use Rattle.picture.proofs.scanner.Scanner.list.Given as goal

abbrev pub invariant-loop-rest : goal.invariant-loop-rest
invariant-loop-rest g l =
    Partly g.E.From.from_gives (taken_down (meant l.initial.self.receiver) (levels l.piece)) l.initial.entries (taken_down (meant l.self.receiver) (levels l.rest)) l.entries l.found
    × (after_listed (meant l.self.receiver) (levels l.rest) ≡ after_listed (meant l.initial.self.receiver) (levels l.piece))

abbrev pub decreases-loop-rest : goal.decreases-loop-rest
decreases-loop-rest g l = length l.rest
