use Rattle.arr_compile.proofs.Computing as computing
use Rattle.arr_compile.proofs.laws.circuit_computes.Goals as goal

pub returns-clause-inputs : goal.returns-clause-inputs
returns-clause-inputs c = computing.inputs_are c.nodes_in_order.ensures.inputs

pub returns-clause-computes : goal.returns-clause-computes
returns-clause-computes c = computing.computes c.nodes_in_order.ensures.inputs c.nodes_in_order.ensures.list c.nodes_mean.ensures c.outputs_in_order.ensures
