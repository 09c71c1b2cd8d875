use Rattle.std.proofs.Common.{◌≡◌, length, arith}
use Rattle.field_ext.specs.Field.{neg_f}
use Rattle.arr_eval.proofs.InPlace.{changed_more, changed_all}
use Rattle.arr_eval.proofs.numbers.negate_each.Goals as goal

pub each-preserved : goal.each-preserved
each-preserved c =
    changed_more neg_f c.each.i c.args.items.now c.each.items c.index-items-i.result c.neg.result
    c.each-test.true c.each.invariant c.index-items-i.is c.neg.ensures

pub returns : goal.returns
returns c =
    let whole : c.each.i ≡ length c.args.items.now = omega (arith, c.each-test.false, c.each.auto.i-end) in
    changed_all neg_f c.each.i c.args.items.now c.each.items whole c.each.invariant
