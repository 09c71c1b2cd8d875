use Rattle.std.proofs.Common.{◌∙◌, ◌*◌, ap₂}
use Rattle.field_ext.specs.Field.{mul_f}
use Rattle.field_ext.proofs.api.Elements.{of_same}
use Rattle.field_ext.proofs.api.Words.{folded}
use Rattle.field_ext.proofs.fp.Fp.mul.Goals as goal

pub returns : goal.returns
returns c = c.reduced.ensures ∙ of_same _ _ (folded (c.self.inside.n * c.other.inside.n)) ∙ ap₂ mul_f c.self.view_is c.other.view_is
