use Rattle.std.proofs.Common.{rules}
use Rattle.layer_compile.proofs.plan.Plan.leaves_of.Goals as goal

pub offset_bounds-nodes-k-index : goal.offset_bounds-nodes-k-index
offset_bounds-nodes-k-index g = search rules

pub offset_bounds-nodes-k : goal.offset_bounds-nodes-k
offset_bounds-nodes-k g = search rules

pub bounds-nodes-k : goal.bounds-nodes-k
bounds-nodes-k g = search rules

pub returns-in_err-add : goal.returns-in_err-add
returns-in_err-add g = search rules
