-- Handing down changes nothing of what the queue means, and leaves fewer characters held.
use Rattle.std.proofs.Common.{◌≡◌, length}
use Rattle.queue.specs.Queues.{queued_to}
use Rattle.queue.proofs.send_queue.SendQueue.hand_down.Given as goal

abbrev pub invariant-loop-character : goal.invariant-loop-character
invariant-loop-character g l =
    let m = g.S.Sender.meaning in
    queued_to (m l.self.below) l.self.held ≡ queued_to (m l.initial.self.below) l.initial.self.held

abbrev pub decreases-loop-character : goal.decreases-loop-character
decreases-loop-character g l = length l.self.held
