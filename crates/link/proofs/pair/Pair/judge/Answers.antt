-- Bit by bit, as far as they are neither early nor late.
use Rattle.std.proofs.Common.{◌≡◌, ◌+◌, ◌≤◌, Err, arith, rules, sym, ap, ◌∙◌}
use Rattle.line.specs.Frames.{first_stop}
use Rattle.line.proofs.Bits.{stop_most}
use Rattle.link.specs.Judging.{bit_judged}
use Rattle.link.proofs.Folding.{asked, found}
use Rattle.link.proofs.pair.Pair.judge.Goals as goal

pub try_fold-requires-clause-callable : goal.try_fold-requires-clause-callable
try_fold-requires-clause-callable g c =
    let s = g.S.Sender.meaning c.args.self.now.sender.now in
    let r = g.R.Receiver.meaning c.args.self.now.receiver.now in
    let most = stop_most c.format.result in
    asked s r c.args.self.now.rates.send c.args.self.now.rates.receive (c.first_stop.result + 1) _ (λ begin k q t. search rules)
    (λ begin k inside is. let few : k ≤ 11 = omega (arith, inside, c.first_stop.ensures, most) in search rules) (omega arith) (omega arith)

pub returns : goal.returns
returns g c =
    let s = g.S.Sender.meaning c.args.self.now.sender.now in
    let r = g.R.Receiver.meaning c.args.self.now.receiver.now in
    found s r c.args.self.now.rates.send c.args.self.now.rates.receive (1 + first_stop r.format) _ c.try_fold.ensures.ran (omega arith)
    (omega (arith, c.first_stop.ensures, ap first_stop c.format.ensures)) (λ begin k q t. search rules) c.unwrap_or.result (λ end e. search rules)
    (λ begin k t.
    let is : bit_judged s r c.args.self.now.rates.send c.args.self.now.rates.receive k ≡ t.0 = search rules in
    let told : c.unwrap_or.result ≡ t.2.0 = search rules in
    is ∙ t.4 ∙ ap Err (sym told))
