use Rattle.batch_core.proofs.Worked.{shared_position, own_position, both_positions}
use Rattle.batch_core.proofs.examples.shared_input.Goals as goal

pub returns-clause-shared : goal.returns-clause-shared
returns-clause-shared c = shared_position

pub returns-clause-own : goal.returns-clause-own
returns-clause-own c = own_position

pub returns-clause-both : goal.returns-clause-both
returns-clause-both c = both_positions
