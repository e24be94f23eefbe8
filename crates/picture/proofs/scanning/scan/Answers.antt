-- A picture is one piece, given to a new receiver.
use Rattle.picture.proofs.Listing.{recovers}
use Rattle.picture.proofs.scanning.scan.Goals as goal

pub returns-clause-recovers : goal.returns-clause-recovers
returns-clause-recovers g c = recovers c.args.timing.now c.args.picture.now
