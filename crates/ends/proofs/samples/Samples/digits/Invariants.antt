-- The digits so far are those of the bits above.
use Rattle.std.proofs.Common.{◌≡◌, ◌-◌, ◌*◌, ◌^◌, ◌<◌, drop}
use Rattle.line.specs.Levels.{number}
use Rattle.ends.specs.Receiver.{decided}
use Rattle.ends.specs.Samples.{taken}
use Rattle.ends.proofs.samples.Samples.digits.Given as goal

abbrev pub invariant-loop-k : goal.invariant-loop-k
invariant-loop-k l = (l.digits ≡ number (decided (drop (3 * l.k) (taken l.self)))) × (l.digits < 2 ^ (l.bits - l.k))
