use Rattle.std.proofs.Common.{rules}
use Rattle.layer_compile.proofs.plan.Plan.gates_above.Goals as goal

pub overflow_add-nodes : goal.overflow_add-nodes
overflow_add-nodes g = search rules

pub returns-in_err-gates : goal.returns-in_err-gates
returns-in_err-gates g = search rules

pub returns-in_err-add : goal.returns-in_err-add
returns-in_err-add g = search rules

pub offset_bounds-nodes-k-index : goal.offset_bounds-nodes-k-index
offset_bounds-nodes-k-index g = search rules

pub gate_above-requires-clause-places : goal.gate_above-requires-clause-places
gate_above-requires-clause-places g = search rules

pub gate_above-requires-clause-under : goal.gate_above-requires-clause-under
gate_above-requires-clause-under g = search rules

pub gate_above-requires-clause-node : goal.gate_above-requires-clause-node
gate_above-requires-clause-node g = search rules

pub returns-in_err-add-2 : goal.returns-in_err-add-2
returns-in_err-add-2 g = search rules
