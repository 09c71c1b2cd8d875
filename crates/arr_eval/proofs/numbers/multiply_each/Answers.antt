use Rattle.std.proofs.Common.{◌≡◌, length, arith}
use Rattle.field_ext.specs.Field.{mul_f}
use Rattle.arr_eval.proofs.InPlace.{combined_more, combined_all}
use Rattle.arr_eval.proofs.numbers.multiply_each.Goals as goal

pub each-preserved : goal.each-preserved
each-preserved c =
    combined_more mul_f c.each.i c.args.left.now c.args.right.now c.each.left c.index-left-i.result c.index-right-i.result c.mul.result
    c.each-test.true c.requires c.each.invariant c.index-left-i.is c.index-right-i.is c.mul.ensures

pub returns : goal.returns
returns c =
    let whole : c.each.i ≡ length c.args.left.now = omega (arith, c.each-test.false, c.each.auto.i-end) in
    combined_all mul_f c.each.i c.args.left.now c.args.right.now c.each.left c.requires whole c.each.invariant
