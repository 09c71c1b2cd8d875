use Rattle.std.proofs.Common.{◌∙◌, ap₂}
use Rattle.field_ext.specs.Field.{sub_f}
use Rattle.field_ext.proofs.api.Elements.{sub-of}
use Rattle.field_ext.proofs.api.Words.{least_difference}
use Rattle.field_ext.proofs.fp.Fp.sub.Goals as goal

pub returns : goal.returns
returns c =
    c.made.ensures
    ∙ sub-of c.min.result c.self.inside.n c.other.inside.n (c.min.ensures ∙ least_difference c.self.inside.n c.other.inside.n c.self.inside.below c.other.inside.below)
    ∙ ap₂ sub_f c.self.view_is c.other.view_is
