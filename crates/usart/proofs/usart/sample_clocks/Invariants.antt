-- The table has the samples of the bits so far.
use Rattle.std.proofs.Common.{◌≡◌, ◌*◌, ◌≤◌, length, take}
use Rattle.ends.specs.Times.{start_of}
use Rattle.usart.specs.Usart.{samples}
use Rattle.usart.proofs.usart.sample_clocks.Given as goal

abbrev pub invariant-loop-k : goal.invariant-loop-k
invariant-loop-k l =
    (take (3 * l.k) l.clocks ≡ samples 0 (take l.k l.lengths))
    × (l.start ≡ start_of l.lengths l.k)
    × (l.start ≤ 65536 * l.k)
    × (length l.clocks ≡ 36)
