-- What arrives at a clock is read at once.
use Rattle.std.proofs.Common.{◌≡◌, ap, ◌∙◌}
use Rattle.std.specs.Result.{result_ok}
use Rattle.std.specs.Option.{option_to_list}
use Rattle.line.specs.declared.level.Level.{Level}
use Rattle.ends.specs.Receiver.{ReceiverState, oldest, after_clock}
use Rattle.ends.proofs.Reading.{read_one}
use Rattle.chip.specs.Pairs.{ends_of, seen}
use Rattle.chip.proofs.pair.Ends.clock.Goals as goal
use Rattle.chip.proofs.pair.Ends.clock.Goals.{then-listen, else-listen}

pub returns-clause-arrived : goal.returns-clause-arrived
returns-clause-arrived c =
    let e = ends_of c.args.self.now in
    let l : Level = seen e c.args.listen c.args.level in
    let is : c.if-listen.seen ≡ l = elim c.if-listen.branch [ then-listen w ↦ rw (w.seen-is, w.if-listen.true) c.clock-utxd.ensures.level | else-listen w ↦ rw (w.seen-is, w.if-listen.false) ] in
    let after = c.clock.ensures ∙ ap (after_clock e.receiver) is in
    ap option_to_list (c.ok.ensures.value ∙ ap result_ok c.read.ensures.answer)
    ∙ ap (λ (r : ReceiverState). option_to_list (result_ok (oldest r.unread))) after ∙ read_one e.receiver c.args.self.now.read l
