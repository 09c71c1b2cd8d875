-- Each node passed adds the uses by it
use Rattle.std.proofs.Common.{◌≡◌, ◌+◌, ◌-◌, ◌<◌, ◌&&◌, ℕ, max, cond, eqb, length, get_or, ap, subst, ◌∙◌, arith}
use Rattle.std.specs.Prelude.{nat_lt}
use Rattle.std.specs.List.{list_any}
use Rattle.std.proofs.lemmas.List.{get_or_read, length-replicate, get_or-replicate}
use Rattle.node_core.specs.Nodes.{node_at}
use Rattle.node_core.proofs.api.InOrder.{length-made_in_order}
use Rattle.layer_compile.specs.Levels.{level_of, has_operand}
use Rattle.layer_compile.proofs.UsedAbove.{no_node}
use Rattle.layer_compile.proofs.UsesOf.{AreUsesFrom, uses_start, uses_step}
use Rattle.layer_compile.proofs.uses.mark_uses.Goals as goal

pub loop-m-init : goal.loop-m-init
loop-m-init c =
    let list = c.args.list.now in
    let count = length list.nodes in
    let long : length c.args.uses.now ≡ count = ap length c.requires.zeros ∙ length-replicate count 0 in
    let nodes = ap length c.nodes-nodes.ensures.value in
    let unused = λ (k : ℕ) (l : k < count). ap (λ uses. get_or uses k 0) c.requires.zeros ∙ get_or-replicate count k 0 0 l in
    record {
      long = c.mark_outputs.auto.uses ∙ long;
      used = uses_start list (length c.nodes-nodes.result.now) c.mark_outputs.new.uses (omega arith) (λ k l.
          c.mark_outputs.ensures k (omega arith)
          ∙ (λ i. cond (list_any (λ output. eqb output k) (c.outputs.ensures.value i)) (c.requires.top i) (unused k l i)));
    }

pub loop-m-preserved : goal.loop-m-preserved
loop-m-preserved c =
    let list = c.args.list.now in
    let m = c.loop-m.m - 1 in
    let uses = c.loop-m.uses in
    let next : c.loop-m.m ≡ m + 1 = omega (arith, c.loop-m-test.true) in
    let inside : m < length list.nodes = omega (arith, c.loop-m-test.true, c.loop-m.auto.m, ap length c.nodes-nodes.ensures.value) in
    let node : c.index-nodes-m.result ≡ node_at list m = get_or_read c.nodes-nodes.result.now m c.index-nodes-m.result (omega (arith, ap length c.nodes-nodes.ensures.value)) c.index-nodes-m.is no_node ∙ ap (λ nodes. get_or nodes m no_node) c.nodes-nodes.ensures.value in
    record {
      long = c.mark_operands.auto.uses ∙ c.loop-m.invariant.long;
      used = uses_step list m uses c.mark_operands.new.uses inside (subst (λ m. AreUsesFrom list m uses) next c.loop-m.invariant.used) (λ k l.
          c.mark_operands.ensures k (omega (arith, l, c.loop-m.invariant.long))
          ∙ (λ i. cond (nat_lt 0 (get_or uses m 0) && has_operand (node i) k) (max (get_or uses k 0) (get_or (c.requires.levels i) m 0)) (get_or uses k 0)));
    }

pub bounds-node_levels-m : goal.bounds-node_levels-m
bounds-node_levels-m c =
    let many = ap length c.requires.levels ∙ length-made_in_order level_of c.args.list.now.nodes in
    omega (arith, many, c.loop-m-test.true, c.loop-m.auto.m, ap length c.nodes-nodes.ensures.value)
