-- From the next place on stand the other items.
use Rattle.std.proofs.Common.{◌<◌, ◌∷◌, length, drop, sym, ap, ◌∙◌, arith}
use Rattle.queue.proofs.Rings.{count_is, after_remove}
use Rattle.queue.proofs.ring.Ring.pop_front.Goals as goal

pub returns : goal.returns
returns g c =
    let r = c.self.inside in
    let ok = c.self.invariant in
    let some : 0 < r.count = omega (arith, count_is r ok, ap length c.self.view_is, ap length c.in_ok-item.ensures) in
    let rest = after_remove r.places r.first r.count ok.sixteen ok.inside some ok.few ∙ ap (drop 1) c.self.view_is in
    record { answer = c.in_ok-item.ensures ∙ ap (λ others. c.in_ok-item.item ∷ others) (sym rest); rest = rest }
