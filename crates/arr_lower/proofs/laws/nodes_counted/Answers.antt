use Rattle.arr_lower.proofs.api.Counted.{nodes_counted}
use Rattle.arr_lower.proofs.laws.nodes_counted.Goals as goal

pub returns : goal.returns
returns c = nodes_counted
