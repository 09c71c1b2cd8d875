use Rattle.std.proofs.Common.{rules}
use Rattle.arr_lower.proofs.nodes.Nodes.leaf.Goals as goal

pub returns-clause-nodes : goal.returns-clause-nodes
returns-clause-nodes c = search rules
