-- The values of nodes, each from those of its operands
use Rattle.std.proofs.Common.{◌≡◌, ℕ, ◌<◌, List, length, get_or, take, refl, ◌∙◌, ap₂}
use Rattle.std.proofs.lemmas.List.{get_or-take}
use Rattle.field_ext.specs.Field.{F}
use Rattle.circuit_core.specs.Parts.{combined, zero_f}
use Rattle.node_core.specs.declared.node.Node.{Node}
use Rattle.node_core.specs.declared.node.Node.TheVariants.{Input, Constant, Operation}
use Rattle.node_core.specs.Nodes.{Nodes, IsNodeList, IsFineAt, node_at, node_value, values}
use Rattle.node_core.proofs.api.InOrder.{get_or-made_in_order}

-- a node's value depends on those before it alone
node_value-take : (inputs vs : List F) (many k : ℕ) (node : Node) → IsFineAt many k node → node_value inputs (take k vs) node ≡ node_value inputs vs node
node_value-take inputs vs many k (Input j) fine = refl
node_value-take inputs vs many k (Constant x) fine = refl
node_value-take inputs vs many k (Operation gate) fine =
    ap₂ (combined gate.kind) (get_or-take k vs gate.left zero_f fine.0) (get_or-take k vs gate.right zero_f fine.1)

pub value_at : (n : Nodes) (inputs : List F) (k : ℕ) → IsNodeList n → k < length n.nodes → get_or (values n inputs) k zero_f ≡ node_value inputs (values n inputs) (node_at n k)
value_at n inputs k is l =
    get_or-made_in_order (node_value inputs) n.nodes k zero_f (Input 0) l
    ∙ node_value-take inputs (values n inputs) n.inputs k (node_at n k) (is.fine k l)
