-- A push appends the next coefficient
use Rattle.std.proofs.Common.{◌∙◌, ◌++◌, ◌∷◌, [], List, ap, ap₂, arith}
use Rattle.field_ext.specs.Field.{K, k_ops, add_k}
use Rattle.field_ext.proofs.api.KLaws.{k_laws}
use Rattle.poly_roots.proofs.Coefficients.{sum_step, sum_whole}
use Rattle.poly_roots.proofs.product.sum.Goals as goal

pub loop-i-preserved : goal.loop-i-preserved
loop-i-preserved c = record {
  done = c.push_reserved.ensures.items ∙ ap (λ (xs : List K). xs ++ c.add.result ∷ []) c.loop-i.invariant.done
      ∙ sum_step k_ops k_laws c.args.left.now c.args.right.now c.loop-i.i c.add.result (omega (arith, c.loop-i-test.true, c.max-size.ensures))
      (c.add.ensures ∙ ap₂ add_k c.coefficient.ensures c.coefficient-in-loop-i.ensures);
  capacity = omega (arith, c.push_reserved.ensures.capacity, c.loop-i.invariant.capacity);
}

pub returns : goal.returns
returns c = c.loop-i.invariant.done ∙ sum_whole k_ops c.args.left.now c.args.right.now c.loop-i.i (omega (arith, c.loop-i-test.false, c.max-size.ensures))
