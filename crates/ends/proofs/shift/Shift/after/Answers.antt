-- A bit that is over: the next one, or none.
use Rattle.std.proofs.Common.{◌+◌, ◌<◌, length, ◌∙◌, rules}
use Rattle.line.specs.Frames.{frame_bits}
use Rattle.ends.proofs.Shifting.{next_bit, no_bit}
use Rattle.ends.proofs.shift.Shift.after.Goals as goal

pub returns-then-next-bits-clause-levels : goal.returns-then-next-bits-clause-levels
returns-then-next-bits-clause-levels c =
    let t = c.args.timing.now in
    let s = c.args.self in
    no_bit t.format t.lengths s.digits s.bit s.clocks c.requires.1 c.if-self-gt1.false (c.if-next-bits.true ∙ c.bits.ensures)

pub returns-clause-levels : goal.returns-clause-levels
returns-clause-levels c =
    let t = c.args.timing.now in
    let s = c.args.self in
    let more : s.bit + 1 < frame_bits t.format = search rules in
    let within : s.bit + 1 < length t.lengths = search rules in
    next_bit t.format t.lengths s.digits s.bit s.clocks c.requires.1 c.if-self-gt1.false more within
