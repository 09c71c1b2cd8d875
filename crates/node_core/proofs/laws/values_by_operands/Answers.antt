-- A node's operands were made before it
use Rattle.node_core.proofs.api.NodeValues.{value_at}
use Rattle.node_core.proofs.laws.values_by_operands.Goals as goal

pub returns : goal.returns
returns c = value_at
