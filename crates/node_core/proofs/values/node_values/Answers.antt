-- A node that is read is fine, and its value is made from those before it
use Rattle.std.proofs.Common.{◌≡◌, ◌∙◌, length, sym, ap, arith}
use Rattle.std.proofs.lemmas.List.{get_or_read}
use Rattle.node_core.specs.declared.node.Node.TheVariants.{Input}
use Rattle.node_core.specs.Nodes.{node_value}
use Rattle.node_core.proofs.api.InOrder.{made_in_order_none, made_in_order_step, made_so_far}
use Rattle.node_core.proofs.values.node_values.Goals as goal

pub node_value-requires : goal.node_value-requires
node_value-requires c =
    let i = c.loop-node.node-index in
    let inputs = c.args.inputs.now in
    let many : length c.deref.result.now ≡ i = ap length c.deref.ensures.value ∙ made_so_far (node_value inputs) c.args.nodes.now i c.loop-node.values.items (omega arith) c.loop-node.invariant in
    let read = get_or_read c.args.nodes.now i c.node-item.result c.loop-node-test.true c.node-item.is (Input 0) in
    rw (many, read) (c.requires i c.loop-node-test.true)

pub loop-node-preserved : goal.loop-node-preserved
loop-node-preserved c =
    c.in_ok-push.ensures.items
    ∙ made_in_order_step (node_value c.args.inputs.now) c.args.nodes.now c.loop-node.node-index c.loop-node.values.items c.node-item.result c.node_value.result c.loop-node-test.true c.loop-node.invariant c.node-item.is (c.node_value.ensures ∙ ap (λ earlier. node_value c.args.inputs.now earlier c.node-item.result) c.deref.ensures.value)

pub loop-node-init : goal.loop-node-init
loop-node-init c = c.new-values.ensures.items ∙ sym (made_in_order_none (node_value c.args.inputs.now))
