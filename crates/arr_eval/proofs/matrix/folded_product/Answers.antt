use Rattle.std.proofs.Common.{◌*◌, ◌∙◌}
use Rattle.field_ext.specs.Field.{of}
use Rattle.field_ext.proofs.api.Elements.{of_same}
use Rattle.field_ext.proofs.api.Words.{folded}
use Rattle.arr_eval.proofs.matrix.folded_product.Goals as goal

pub returns-clause-value : goal.returns-clause-value
returns-clause-value c =
    of_same _ _ (folded (c.from.result * c.from-2.result))
    ∙ (λ i. of ((c.from.ensures ∙ c.value.ensures) i * (c.from-2.ensures ∙ c.value-2.ensures) i))
