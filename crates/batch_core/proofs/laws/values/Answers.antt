use Rattle.batch_core.proofs.BatchTables.{circuit_values, true_exactly}
use Rattle.batch_core.proofs.laws.values.Goals as goal

pub returns-clause-layers : goal.returns-clause-layers
returns-clause-layers c = circuit_values

pub returns-clause-outputs : goal.returns-clause-outputs
returns-clause-outputs c = λ circuit form shared instances some counts. true_exactly circuit form shared instances some counts
