-- The values so far are those of the nodes passed
use Rattle.std.proofs.Common.{◌≡◌, take}
use Rattle.node_core.specs.Order.{made_in_order}
use Rattle.node_core.specs.Nodes.{node_value}
use Rattle.node_core.proofs.values.node_values.Given as goal

abbrev pub invariant-loop-node : goal.invariant-loop-node
invariant-loop-node l = l.values.items ≡ made_in_order (node_value l.inputs) (take l.node-index l.nodes)
