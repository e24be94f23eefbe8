-- Taking over changes nothing of what the queue means, and leaves less room in the ring.
use Rattle.std.proofs.Common.{◌≡◌, ◌-◌, length}
use Rattle.queue.specs.Queues.{queued_from}
use Rattle.queue.proofs.receive_queue.ReceiveQueue.take_over.Given as goal

abbrev pub invariant-loop-self : goal.invariant-loop-self
invariant-loop-self g l =
    let m = g.R.Receiver.meaning in
    queued_from (m l.self.below) l.self.held ≡ queued_from (m l.initial.self.below) l.initial.self.held

abbrev pub decreases-loop-self : goal.decreases-loop-self
decreases-loop-self g l = 16 - length l.self.held
