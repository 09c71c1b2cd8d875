-- Without coefficients there is no product
use Rattle.std.proofs.Common.{rules, ◌∙◌}
use Rattle.field_ext.specs.Field.{k_ops}
use Rattle.poly_roots.proofs.Coefficients.{empty_right}
use Rattle.poly_roots.proofs.product.product.Goals as goal

pub returns-then-right-eq0 : goal.returns-then-right-eq0
returns-then-right-eq0 c = c.new-then-right-eq0.ensures.items ∙ empty_right k_ops c.args.left.now c.args.right.now c.if-right-eq0.true

pub add_rows-requires-clause-size : goal.add_rows-requires-clause-size
add_rows-requires-clause-size c = search rules
