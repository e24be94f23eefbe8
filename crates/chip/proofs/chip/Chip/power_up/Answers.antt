-- What is stored in any register is read back.
use Rattle.chip.proofs.Stored.{read_back}
use Rattle.chip.proofs.chip.Chip.power_up.Goals as goal

pub returns-clause-stored : goal.returns-clause-stored
returns-clause-stored c = read_back
