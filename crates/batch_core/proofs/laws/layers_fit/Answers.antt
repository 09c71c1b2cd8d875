use Rattle.batch_core.proofs.BatchTables.{batch_layers, batch_input, batch_claimed}
use Rattle.batch_core.proofs.laws.layers_fit.Goals as goal

pub returns-clause-layers : goal.returns-clause-layers
returns-clause-layers c = λ circuit form shared instances. batch_layers circuit form shared instances

pub returns-clause-inputs : goal.returns-clause-inputs
returns-clause-inputs c = λ circuit form shared instances. batch_input circuit form shared instances

pub returns-clause-claimed : goal.returns-clause-claimed
returns-clause-claimed c = λ circuit form shared instances some counts. batch_claimed circuit form shared instances some counts
