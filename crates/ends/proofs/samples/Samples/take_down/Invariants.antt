-- What has been taken down and what is still to be are what fell on the clock from the start.
use Rattle.std.proofs.Common.{◌≡◌, false, ◌-◌, ◌≤◌, ◌++◌, drop, replicate}
use Rattle.ends.specs.Receiver.{falling_on}
use Rattle.ends.specs.Timed.{sample_clocks}
use Rattle.ends.specs.Samples.{taken}
use Rattle.ends.proofs.samples.Samples.take_down.Given as goal

abbrev pub invariant-loop-some : goal.invariant-loop-some
invariant-loop-some l = (l.initial.self.count ≤ l.self.count)
    × (l.some ≡ false → l.self.count ≡ l.initial.self.count)
    × (taken l.self ++ replicate (falling_on l.clock (drop l.self.count (sample_clocks l.timing))) l.level
    ≡ taken l.initial.self ++ replicate (falling_on l.clock (drop l.initial.self.count (sample_clocks l.timing))) l.level)

abbrev pub decreases-loop-some : goal.decreases-loop-some
decreases-loop-some l = 36 - l.self.count
