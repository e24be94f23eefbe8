-- Fewer than three samples decide no start bit.
use Rattle.std.proofs.Common.{◌∙◌, sym, ap, if◌then◌else◌, arith}
use Rattle.std.proofs.lemmas.Bool.{lt-leb}
use Rattle.ends.specs.Receiver.{Doing, idle, framing, going_on}
use Rattle.ends.specs.Samples.{taken}
use Rattle.ends.proofs.Sampling.{taken_length}
use Rattle.ends.proofs.InFrame.{few_decided}
use Rattle.ends.proofs.samples.Samples.is_false_start.Goals as goal

pub returns-else-self-ge3 : goal.returns-else-self-ge3
returns-else-self-ge3 c n =
    let s = c.args.self.now in
    ap {B = Doing} (λ b. if b then idle else framing n (taken s)) (lt-leb 3 s.count c.if-self-ge3.false)
    ∙ sym (ap {B = Doing} (λ bs. going_on bs n (taken s)) (few_decided (taken s) (omega (arith, taken_length s, c.if-self-ge3.false))))
