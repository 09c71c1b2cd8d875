use Rattle.std.proofs.Common.{◌+◌, ◌*◌, ap₂, arith}
use Rattle.field_ext.specs.Field.{mul_f}
use Rattle.arr_eval.specs.Numbers.{element}
use Rattle.arr_eval.proofs.Places.{sum_of-more}
use Rattle.arr_eval.proofs.matrix.product.Goals as goal

pub each-preserved : goal.each-preserved
each-preserved c = record {
  small = omega (arith, c.each.invariant.small, c.folded_product-total.ensures.small);
  value = sum_of-more (λ k. mul_f (element c.args.left.now (c.args.i * c.args.m + k)) (element c.args.right.now (k * c.args.q + c.args.j)))
      c.each.l c.each.total c.folded_product-total.result _ c.each.invariant.value c.folded_product-total.ensures.value
      (ap₂ mul_f c.element_at.ensures c.element_at-in-each.ensures);
}
