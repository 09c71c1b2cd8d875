-- The levels, uses and chains are those of the list
use Rattle.std.proofs.Common.{◌≡◌, ◌∙◌, ℕ, length, get_or, ap, subst, arith, rules}
use Rattle.node_core.proofs.api.InOrder.{length-made_in_order}
use Rattle.layer_compile.specs.Levels.{level, level_of, greatest}
use Rattle.layer_compile.specs.Next.{AreChains}
use Rattle.layer_compile.proofs.LevelsOf.{height_small, level_small}
use Rattle.layer_compile.proofs.layout.plan_of.Goals as goal

pub greatest_level-top-requires : goal.greatest_level-top-requires
greatest_level-top-requires c = λ k d l.
    let list = c.args.list.now in
    let many = ap length (c.deref.ensures.value ∙ c.in_ok-node_levels.ensures) ∙ length-made_in_order level_of list.nodes in
    let output = ap (λ outputs. get_or outputs k d) c.outputs.ensures.value in
    omega (arith, many, output, c.outputs.ensures.fine.outputs_there k d (omega (arith, l, ap length c.outputs.ensures.value)))

pub overflow_add-top : goal.overflow_add-top
overflow_add-top c =
    let list = c.args.list.now in
    let levels = c.deref.ensures.value ∙ c.in_ok-node_levels.ensures in
    let top : c.greatest_level-top.result ≡ greatest (level list) list.outputs =
    c.greatest_level-top.ensures ∙ (λ i. greatest (λ (k : ℕ). get_or (levels i) k 0) (c.outputs.ensures.value i)) in
    omega (arith, top, height_small list c.outputs.ensures.fine, c.outputs.ensures.fine.few_nodes)

pub linked-requires-clause-few : goal.linked-requires-clause-few
linked-requires-clause-few c =
    let list = c.args.list.now in
    let many = ap length (c.deref-3.ensures.value ∙ c.in_ok-node_levels.ensures) ∙ length-made_in_order level_of list.nodes in
    omega (arith, many, c.outputs.ensures.fine.few_nodes)

pub linked-requires-clause-low : goal.linked-requires-clause-low
linked-requires-clause-low c = λ k l.
    let list = c.args.list.now in
    let same = c.deref-3.ensures.value ∙ c.in_ok-node_levels.ensures in
    let many = ap length same ∙ length-made_in_order level_of list.nodes in
    omega (arith, ap (λ levels. get_or levels k 0) same, level_small list k c.outputs.ensures.fine (omega (arith, l, many)))

pub invariant_of-result-clause-chained : goal.invariant_of-result-clause-chained
invariant_of-result-clause-chained c =
    subst (λ levels. AreChains levels c.in_ok-by_level.by_level.first.items c.in_ok-by_level.by_level.next.items) (c.deref-3.ensures.value ∙ c.in_ok-node_levels.ensures) c.in_ok-by_level.ensures.linked

pub invariant_of-result-clause-many_levels : goal.invariant_of-result-clause-many_levels
invariant_of-result-clause-many_levels c =
    c.in_ok-node_levels.node_levels.ok.0 ∙ ap length c.in_ok-node_levels.ensures ∙ length-made_in_order level_of c.args.list.now.nodes

pub invariant_of-result-clause-many_firsts : goal.invariant_of-result-clause-many_firsts
invariant_of-result-clause-many_firsts c =
    let many = ap length (c.deref-3.ensures.value ∙ c.in_ok-node_levels.ensures) ∙ length-made_in_order level_of c.args.list.now.nodes in
    omega (arith, c.in_ok-by_level.by_level.first.ok.0, c.in_ok-by_level.ensures.firsts, many)

pub invariant_of-result-clause-many_nexts : goal.invariant_of-result-clause-many_nexts
invariant_of-result-clause-many_nexts c =
    let many = ap length (c.deref-3.ensures.value ∙ c.in_ok-node_levels.ensures) ∙ length-made_in_order level_of c.args.list.now.nodes in
    omega (arith, c.in_ok-by_level.by_level.next.ok.0, c.in_ok-by_level.ensures.nexts, many)

pub returns-in_err-node_levels-clause-list : goal.returns-in_err-node_levels-clause-list
returns-in_err-node_levels-clause-list g = search rules

pub returns-in_err-node_levels-clause-fine : goal.returns-in_err-node_levels-clause-fine
returns-in_err-node_levels-clause-fine g = search rules

pub returns-in_err-node_uses-clause-list : goal.returns-in_err-node_uses-clause-list
returns-in_err-node_uses-clause-list g = search rules

pub returns-in_err-node_uses-clause-fine : goal.returns-in_err-node_uses-clause-fine
returns-in_err-node_uses-clause-fine g = search rules

pub returns-in_err-by_level-clause-list : goal.returns-in_err-by_level-clause-list
returns-in_err-by_level-clause-list g = search rules

pub returns-in_err-by_level-clause-fine : goal.returns-in_err-by_level-clause-fine
returns-in_err-by_level-clause-fine g = search rules

pub invariant_of-result-clause-used : goal.invariant_of-result-clause-used
invariant_of-result-clause-used g = search rules

pub returns-clause-list : goal.returns-clause-list
returns-clause-list g c = search rules

pub returns-clause-fine : goal.returns-clause-fine
returns-clause-fine g = search rules
