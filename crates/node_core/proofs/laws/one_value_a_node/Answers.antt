-- As many elements are made as there are nodes
use Rattle.node_core.proofs.api.InOrder.{length-made_in_order}
use Rattle.node_core.specs.Nodes.{node_value}
use Rattle.node_core.proofs.laws.one_value_a_node.Goals as goal

pub returns : goal.returns
returns c = λ n inputs. length-made_in_order (node_value inputs) n.nodes
