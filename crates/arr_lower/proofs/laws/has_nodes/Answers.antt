use Rattle.arr_lower.proofs.api.Counted.{has_nodes, accepted}
use Rattle.arr_lower.proofs.laws.has_nodes.Goals as goal

pub returns-clause-some : goal.returns-clause-some
returns-clause-some c = has_nodes

pub returns-clause-accepted : goal.returns-clause-accepted
returns-clause-accepted c = accepted
