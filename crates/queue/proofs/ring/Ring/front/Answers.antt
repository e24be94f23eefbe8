-- The first item stands at the first place.
use Rattle.std.proofs.Common.{◌≡◌, ◌∷◌, drop, slice_index_or, subst, arith}
use Rattle.queue.proofs.Rings.{oldest_item}
use Rattle.queue.proofs.ring.Ring.front.Goals as goal

pub returns : goal.returns
returns g c =
    let r = c.self.inside in
    let ok = c.self.invariant in
    subst (λ items. items ≡ slice_index_or r.places r.first c.index-self-self.result ∷ drop 1 items) c.self.view_is
    (oldest_item r.places r.first r.count ok.sixteen ok.inside c.index-self-self.result (omega arith) ok.few)
