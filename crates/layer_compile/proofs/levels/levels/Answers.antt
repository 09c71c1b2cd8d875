-- A level is made from those of the operands, which are earlier nodes
use Rattle.std.proofs.Common.{◌≡◌, ◌≤◌, ◌+◌, ◌∙◌, [], length, get_or, sym, ap, arith, rules}
use Rattle.std.proofs.lemmas.List.{get_or_read}
use Rattle.std.proofs.lemmas.List.Elements.{All-nil, All-same, All-push, All-weaker}
use Rattle.node_core.specs.Nodes.{node_at}
use Rattle.node_core.proofs.api.InOrder.{made_in_order_none, made_in_order_step, made_so_far}
use Rattle.layer_compile.specs.Levels.{level_of}
use Rattle.layer_compile.proofs.UsedAbove.{no_node}
use Rattle.layer_compile.proofs.LevelsOf.{operands_before}
use Rattle.layer_compile.proofs.levels.levels.Goals as goal

pub loop-node-init : goal.loop-node-init
loop-node-init c = record {
  made = c.new-levels.ensures.items ∙ sym (made_in_order_none level_of);
  small = All-same (λ level. level ≤ 0) c.new-levels.result.items [] c.new-levels.ensures.items (All-nil (λ level. level ≤ 0));
}

-- as many levels as nodes so far
many_so_far : (c : goal.After-deref) → length c.deref.result.now ≡ c.loop-node.node-index
many_so_far c =
    ap length c.deref.ensures.value
    ∙ made_so_far level_of c.nodes-node-items.result.now c.loop-node.node-index c.loop-node.levels.items (omega arith) c.loop-node.invariant.made

pub level_of-level-requires-clause-before : goal.level_of-level-requires-clause-before
level_of-level-requires-clause-before c =
    let i = c.loop-node.node-index in
    let list = c.args.list.now in
    let read : c.node-item.result ≡ node_at list i = get_or_read c.nodes-node-items.result.now i c.node-item.result c.loop-node-test.true c.node-item.is no_node ∙ ap (λ nodes. get_or nodes i no_node) c.nodes-node-items.ensures.value in
    let fine = c.nodes-node-items.ensures.fine.fine i (omega (arith, c.loop-node-test.true, ap length c.nodes-node-items.ensures.value)) in
    rw (many_so_far c, read) (operands_before list.inputs i (node_at list i) fine)

pub level_of-level-requires-clause-small : goal.level_of-level-requires-clause-small
level_of-level-requires-clause-small c =
    let i = c.loop-node.node-index in
    let earlier = c.deref.result.now in
    let many = many_so_far c in
    All-weaker (λ level. level ≤ i) (λ level. level ≤ length earlier) (λ level l. omega arith) earlier
    (All-same (λ level. level ≤ i) earlier c.loop-node.levels.items c.deref.ensures.value c.loop-node.invariant.small)

pub loop-node-preserved : goal.loop-node-preserved
loop-node-preserved c =
    let i = c.loop-node.node-index in
    let levels = c.loop-node.levels.items in
    let many = ap length c.deref.ensures.value ∙ made_so_far level_of c.nodes-node-items.result.now i levels (omega arith) c.loop-node.invariant.made in
    record {
      made = c.in_ok-add.ensures ∙ made_in_order_step level_of c.nodes-node-items.result.now i levels c.node-item.result c.level_of-level.result c.loop-node-test.true c.loop-node.invariant.made c.node-item.is (c.level_of-level.ensures.value ∙ ap (λ earlier. level_of earlier c.node-item.result) c.deref.ensures.value);
      small = All-same (λ level. level ≤ i + 1) _ _ c.in_ok-add.ensures (All-push (λ level. level ≤ i + 1) levels c.level_of-level.result (All-weaker (λ level. level ≤ i) (λ level. level ≤ i + 1) (λ level l. omega arith) levels c.loop-node.invariant.small) (omega (arith, c.level_of-level.ensures.small, many)));
    }

pub offset_bounds-node-items-node-index : goal.offset_bounds-node-items-node-index
offset_bounds-node-items-node-index g = search rules

pub returns-in_err-add : goal.returns-in_err-add
returns-in_err-add g = search rules
