use Rattle.std.proofs.Common.{◌≤◌, ◌+◌, ◌*◌, get_or, arith}
use Rattle.circuit_core.specs.declared.gate.Kind.TheVariants.{Mul}
use Rattle.arr_lower.specs.Operations.{operation_node}
use Rattle.arr_lower.proofs.MadeInTurn.{places-more, places-all}
use Rattle.arr_lower.proofs.matrix.products.Goals as goal

pub each-preserved : goal.each-preserved
each-preserved c =
    places-more (operation_node Mul) (λ k. (get_or c.args.left.now (c.args.i * c.args.m + k) 0, get_or c.args.right.now (k * c.args.q + c.args.j) 0)) c.args.m c.each.l
    (c.item_at-a.result, c.item_at-b.result) c.each.found.items _ c.each.nodes c.operation.new.self _ _ c.each-test.true
    (λ k. (c.item_at-a.ensures k, c.item_at-b.ensures k)) c.in_ok-operation.ensures c.in_ok-push.ensures.items c.each.invariant

pub returns : goal.returns
returns c =
    let past : c.args.m ≤ c.each.l = omega (arith, c.each-test.false) in
    places-all (operation_node Mul) (λ k. (get_or c.args.left.now (c.args.i * c.args.m + k) 0, get_or c.args.right.now (k * c.args.q + c.args.j) 0)) c.args.m c.each.l
    c.each.found.items c.each.nodes _ past c.each.invariant
