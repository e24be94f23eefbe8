-- A bit is judged by where it begins and ends and when it is sampled.
use Rattle.std.proofs.Common.{ℕ, ◌^◌, ◌<◌, ◌∙◌, arith, w64, Fits, rules}
use Rattle.std.proofs.lemmas.Nat.{mul-le}
use Rattle.ends.proofs.Held.{start_most}
use Rattle.link.proofs.Judging.{is_late, is_good}
use Rattle.link.proofs.pair.Pair.judge_bit.Goals as goal

fits_below : (n : ℕ) → n < 2 ^ 64 → Fits w64 n
fits_below n h = search rules

pub overflow_add-end : goal.overflow_add-end
overflow_add-end g c =
    let sound = g.met.S.Sender.sound c.args.self.now.sender.now in
    fits_below _ (omega (arith, c.requires.begin, start_most _ sound.short c.args.bit, c.requires.bit, c.from.ensures, c.bit_length.ensures, sound.short c.args.bit))

pub overflow_mul-begin : goal.overflow_mul-begin
overflow_mul-begin g c =
    let sound = g.met.S.Sender.sound c.args.self.now.sender.now in
    fits_below _
    (omega (arith, mul-le c.args.begin c.from-b.result 786432 16777216 (omega (arith, c.requires.begin, start_most _ sound.short c.args.bit, c.requires.bit)) (omega (arith, c.from-b.ensures, c.args.self.now.receive))))

pub returns-then-from-a : goal.returns-then-from-a
returns-then-from-a g c =
    is_late (g.S.Sender.meaning c.args.self.now.sender.now) (g.R.Receiver.meaning c.args.self.now.receiver.now) _ _ c.args.bit c.from-a.ensures c.from-b.ensures c.requires.begin
    (c.from.ensures ∙ c.bit_length.ensures) (c.from-2.ensures ∙ c.sample_clock.ensures) (c.from-3.ensures ∙ c.sample_clock-2.ensures) c.if-begin-b.false c.if-from-a.true

pub returns : goal.returns
returns g c =
    is_good (g.S.Sender.meaning c.args.self.now.sender.now) (g.R.Receiver.meaning c.args.self.now.receiver.now) _ _ c.args.bit c.from-a.ensures c.from-b.ensures c.requires.begin
    (c.from.ensures ∙ c.bit_length.ensures) (c.from-2.ensures ∙ c.sample_clock.ensures) (c.from-3.ensures ∙ c.sample_clock-2.ensures) c.if-begin-b.false c.if-from-a.false
