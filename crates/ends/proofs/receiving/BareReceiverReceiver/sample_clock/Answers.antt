-- A place of the table, or 0 past its end.
use Rattle.std.proofs.Common.{ap, ◌∙◌, unwrap_or}
use Rattle.std.proofs.lemmas.Option.{unwrap_or-slice_get}
use Rattle.ends.proofs.receiving.BareReceiverReceiver.sample_clock.Goals as goal

pub returns : goal.returns
returns c = c.unwrap_or.ensures ∙ ap (λ o. unwrap_or o 0) c.sample.ensures ∙ unwrap_or-slice_get _ c.args.sample 0
