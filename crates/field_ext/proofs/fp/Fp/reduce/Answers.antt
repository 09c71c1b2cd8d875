use Rattle.std.proofs.Common.{◌∙◌, ◌+◌, ◌/◌, ℕ, bit_and}
use Rattle.field_ext.specs.Field.{prime}
use Rattle.field_ext.proofs.api.Elements.{of_same}
use Rattle.field_ext.proofs.api.Words.{folded}
use Rattle.field_ext.proofs.fp.Fp.reduce.Goals as goal

pub returns : goal.returns
returns c =
    let once : ℕ = bit_and c.args.n prime + c.args.n / 2147483648 in
    c.reduced.ensures ∙ of_same _ _ (folded once ∙ folded c.args.n)
