-- The value at 0 is the first coefficient
use Rattle.std.proofs.Common.{◌∙◌, sym, ap₂}
use Rattle.field_ext.specs.Field.{k_ops, add_k}
use Rattle.field_ext.proofs.api.KLaws.{k_laws}
use Rattle.poly_roots.proofs.Coefficients.{value-zero}
use Rattle.poly_roots.proofs.value.sum01.Goals as goal

pub returns : goal.returns
returns c = c.add.ensures ∙ ap₂ add_k (c.coefficient.ensures ∙ sym (value-zero k_ops k_laws c.args.coefficients.now)) c.value_at_one.ensures
