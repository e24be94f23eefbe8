-- The entries found so far, and those to come.
use Rattle.std.proofs.Common.{◌≡◌, ◌+◌, ◌≤◌, length}
use Rattle.ends.specs.BareReceiver.{meant}
use Rattle.ends.specs.Runs.{taken_down}
use Rattle.picture.specs.Scanning.{levels}
use Rattle.picture.proofs.scanner.Scanner.count.Given as goal

abbrev pub invariant-loop-rest : goal.invariant-loop-rest
invariant-loop-rest l =
    (l.found + length l.rest ≤ length l.piece)
    × (l.found + length (taken_down (meant l.self.receiver) (levels l.rest)) ≡ length (taken_down (meant l.initial.self.receiver) (levels l.piece)))

abbrev pub decreases-loop-rest : goal.decreases-loop-rest
decreases-loop-rest l = length l.rest
