-- Fit passes from the clock's own rate to the edge.
use Rattle.std.proofs.Common.{◌≡◌, ℕ, Bool, true, arith}
use Rattle.sheet.specs.Tolerance.{passes_of}
use Rattle.sheet.proofs.Convex.{in_range, up_to, down_to}
use Rattle.sheet.proofs.tolerance.Tolerance.edge_towards.Goals as goal

pub returns : goal.returns
returns g c =
    let s = g.S.Sender.meaning c.args.self.now.sender.now in
    let r = g.R.Receiver.meaning c.args.self.now.receiver.now in
    let q = c.args.self.now.rates in
    let o = c.args.self.now.off in
    let test : ℕ → Bool = passes_of g.S.Sender.meaning g.R.Receiver.meaning c.args.self.now in
    let own : test c.own_rate-own.result ≡ true = cc in
    let within = in_range s r q o c.own_rate-own.result own in
    record {
      up = λ above.
          let ends = c.edge.ensures.up (omega (arith, within, above)) in
          rw (← c.own_rate-own.ensures) (up_to s r q o c.own_rate-own.result c.edge.result own c.edge.ensures.passes ends.0 ends.1);
      down = λ none.
          let ends = c.edge.ensures.down (omega (arith, within, none)) in
          rw (← c.own_rate-own.ensures) (down_to s r q o c.own_rate-own.result c.edge.result own c.edge.ensures.passes ends.0 ends.1);
    }
