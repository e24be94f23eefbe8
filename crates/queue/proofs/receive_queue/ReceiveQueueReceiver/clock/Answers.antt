-- The ring is full or nothing is unread below, so an arrival below is one of both.
use Rattle.std.proofs.Common.{List, ap, ◌∙◌}
use Rattle.ends.specs.Receiver.{ReceiverState, Entry, after_clock}
use Rattle.queue.specs.Queues.{queued_from}
use Rattle.queue.proofs.Receiving.{clocked}
use Rattle.queue.proofs.receive_queue.ReceiveQueueReceiver.clock.Goals as goal

pub returns : goal.returns
returns g c =
    let before = c.args.self.now in
    let q = c.take_over.new.self in
    let r : ReceiverState = g.R.Receiver.meaning q.below in
    let held : List Entry = q.held in
    ap (λ (t : ReceiverState). queued_from t held) {x = g.R.Receiver.meaning c.clock.new.self} {y = after_clock r c.args.level} c.clock.ensures
    ∙ clocked r held c.args.level (g.met.R.Receiver.sound q.below).room q.few c.take_over.ensures.emptied
    ∙ ap (λ (m : ReceiverState). after_clock m c.args.level) {x = queued_from r held} {y = queued_from (g.R.Receiver.meaning before.below) before.held} c.take_over.ensures.same
