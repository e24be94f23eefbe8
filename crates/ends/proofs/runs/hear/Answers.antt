-- Frames that are sampled inside their bits arrive.
use Rattle.ends.proofs.Arriving.{hears_all}
use Rattle.ends.proofs.runs.hear.Goals as goal

pub returns-clause-hears : goal.returns-clause-hears
returns-clause-hears g c =
    let start = c.args.receiver.now in
    hears_all (g.R.Receiver.meaning start) (g.met.R.Receiver.sound start)
