use Rattle.arr_eval.proofs.Places.{product-more}
use Rattle.arr_eval.proofs.matrix.add_row.Goals as goal

pub each-preserved : goal.each-preserved
each-preserved c =
    product-more c.args.m c.args.q c.args.left.now c.args.right.now c.args.i c.each.j c.product.result c.each.found.items _
    c.each-test.true c.each.invariant c.in_ok-push.ensures.items c.product.ensures
