use Rattle.std.proofs.Common.{rules}
use Rattle.layer_compile.proofs.plan.Plan.add_new.Goals as goal

pub overflow_add-height : goal.overflow_add-height
overflow_add-height g = search rules

pub is_used_above-requires-clause-inside : goal.is_used_above-requires-clause-inside
is_used_above-requires-clause-inside g = search rules

pub is_used_above-requires-clause-below : goal.is_used_above-requires-clause-below
is_used_above-requires-clause-below g = search rules

pub returns-in_err-add-clause-nodes : goal.returns-in_err-add-clause-nodes
returns-in_err-add-clause-nodes g = search rules

pub returns-in_err-add-clause-gates : goal.returns-in_err-add-clause-gates
returns-in_err-add-clause-gates g = search rules

pub placed-requires-clause-places : goal.placed-requires-clause-places
placed-requires-clause-places g = search rules

pub placed-requires-clause-node : goal.placed-requires-clause-node
placed-requires-clause-node g = search rules

pub returns-in_err-add-2-clause-nodes : goal.returns-in_err-add-2-clause-nodes
returns-in_err-add-2-clause-nodes g = search rules

pub returns-in_err-add-2-clause-gates : goal.returns-in_err-add-2-clause-gates
returns-in_err-add-2-clause-gates g = search rules
