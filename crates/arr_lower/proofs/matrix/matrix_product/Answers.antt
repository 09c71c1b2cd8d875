use Rattle.std.proofs.Common.{◌≤◌, ◌*◌, arith}
use Rattle.arr_lower.specs.Operations.{dot_node, product_pairs}
use Rattle.arr_lower.proofs.MadeInTurn.{numbers-more, numbers-all}
use Rattle.arr_lower.proofs.matrix.matrix_product.Goals as goal

pub each-preserved : goal.each-preserved
each-preserved c =
    numbers-more (λ k. dot_node (product_pairs c.args.m c.args.q c.args.left.now c.args.right.now k)) (c.args.n * c.args.q) c.each.k
    c.each.found.items _ c.each.nodes c.product.new.nodes _ _ c.each-test.true c.in_ok-product.ensures c.in_ok-push.ensures.items c.each.invariant

pub returns : goal.returns
returns c =
    let past : c.args.n * c.args.q ≤ c.each.k = omega (arith, c.each-test.false) in
    numbers-all (λ k. dot_node (product_pairs c.args.m c.args.q c.args.left.now c.args.right.now k)) (c.args.n * c.args.q) c.each.k
    c.each.found.items c.each.nodes _ past c.each.invariant
