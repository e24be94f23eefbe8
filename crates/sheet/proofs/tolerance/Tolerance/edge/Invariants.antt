-- The one rate passes and the other does not, and they come nearer from the sides where they began.
use Rattle.std.proofs.Common.{◌≡◌, ℕ, ◌+◌, ◌-◌, ◌<◌, ◌≤◌, Bool, true, false}
use Rattle.sheet.specs.Tolerance.{passes_at}
use Rattle.sheet.proofs.tolerance.Tolerance.edge.Given as goal

abbrev pub invariant-loop-middle : goal.invariant-loop-middle
invariant-loop-middle g l =
    let test : ℕ → Bool = passes_at (g.S.Sender.meaning l.self.sender.now) (g.R.Receiver.meaning l.self.receiver.now) l.self.rates l.self.off in
    record {
      passes : test l.good ≡ true;
      fails : test l.bad ≡ false;
      up : l.fn.good < l.fn.bad → (l.fn.good ≤ l.good) × (l.good < l.bad);
      down : l.fn.bad < l.fn.good → (l.good ≤ l.fn.good) × (l.bad < l.good);
    }

abbrev pub decreases-loop-middle : goal.decreases-loop-middle
decreases-loop-middle g l = (l.good - l.bad) + (l.bad - l.good)
