use Rattle.batch_core.proofs.Worked.{one_coordinate}
use Rattle.batch_core.proofs.examples.one_coordinate.Goals as goal

pub returns : goal.returns
returns c = one_coordinate
