use Rattle.std.proofs.Common.{◌∙◌, ◌/◌, ◌<◌, arith}
use Rattle.field_ext.proofs.api.Elements.{of_same}
use Rattle.field_ext.proofs.api.Words.{folded_twice, least}
use Rattle.field_ext.proofs.fp.Fp.of_products.Goals as goal

pub returns : goal.returns
returns c =
    let below : c.args.n / 2147483648 < 4294967294 = omega (arith, c.requires) in
    c.reduced.ensures ∙ of_same _ _ (folded_twice c.args.n c.min-high.result (c.min-high.ensures ∙ least (c.args.n / 2147483648) below))
