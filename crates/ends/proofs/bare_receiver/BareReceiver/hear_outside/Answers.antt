-- The byte after those that change nothing.
use Rattle.std.proofs.Common.{◌≡◌, ℕ, ◌<◌, length, get_or, sym, ap, ◌∙◌, arith, rules}
use Rattle.line.specs.Levels.{level_of}
use Rattle.ends.specs.Receiver.{after_clock}
use Rattle.ends.specs.BareReceiver.{meant}
use Rattle.ends.proofs.Quiet.{next_heard}
use Rattle.ends.proofs.bare_receiver.BareReceiver.hear_outside.Goals as goal

pub returns-in-Some-clause-state : goal.returns-in-Some-clause-state
returns-in-Some-clause-state c =
    let bs = c.args.bytes.now in
    let k : ℕ = c.steady-steady.result in
    let within : k < length bs = search rules in
    let byte : c.in-Some.byte.now ≡ get_or bs k 0 = search rules in
    c.clock.ensures
    ∙ ap (λ l. after_clock (meant c.args.self.now) l) (c.level_of.ensures ∙ ap level_of byte)
    ∙ sym (next_heard (meant c.args.self.now) (meant c.args.self.now) bs k within c.steady-steady.ensures.state)

pub returns-in-Some-clause-quiet : goal.returns-in-Some-clause-quiet
returns-in-Some-clause-quiet c = c.steady-steady.ensures.quiet _ (omega arith)

pub returns-in-None-clause-quiet : goal.returns-in-None-clause-quiet
returns-in-None-clause-quiet c = c.steady-steady.ensures.quiet _ (omega arith)
