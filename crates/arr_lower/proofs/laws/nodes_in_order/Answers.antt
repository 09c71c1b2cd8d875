use Rattle.arr_lower.proofs.api.Counted.{is-list}
use Rattle.arr_lower.proofs.Means.{inputs-counted, nodes-fine, outputs-there}
use Rattle.arr_lower.proofs.laws.nodes_in_order.Goals as goal

pub returns-clause-inputs : goal.returns-clause-inputs
returns-clause-inputs c = inputs-counted

pub returns-clause-fine : goal.returns-clause-fine
returns-clause-fine c = nodes-fine

pub returns-clause-outputs : goal.returns-clause-outputs
returns-clause-outputs c = outputs-there

pub returns-clause-list : goal.returns-clause-list
returns-clause-list c = is-list
