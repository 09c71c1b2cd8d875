use Rattle.arr_lower.proofs.api.Counted.{same_nodes}
use Rattle.arr_lower.proofs.laws.same_nodes.Goals as goal

pub returns : goal.returns
returns c = same_nodes
