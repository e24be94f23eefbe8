-- The place written is that after the last item, and none of theirs.
use Rattle.std.proofs.Common.{[], ◌∷◌, ◌++◌, length, ap, ◌∙◌, arith}
use Rattle.queue.proofs.Rings.{count_is, after_push}
use Rattle.queue.proofs.ring.Ring.push_back.Goals as goal

pub returns : goal.returns
returns g c =
    let r = c.self.inside in
    let ok = c.self.invariant in
    after_push r.places r.first r.count ok.sixteen ok.inside c.args.item (omega (arith, c.requires, count_is r ok, ap length c.self.view_is))
    ∙ ap (λ items. items ++ c.args.item ∷ []) c.self.view_is
