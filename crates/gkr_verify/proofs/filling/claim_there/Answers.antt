use Rattle.std.proofs.Common.{◌^◌, ℕ, map, ◌∙◌, ap, arith}
use Rattle.field_ext.specs.Field.{k_ops, embed_k}
use Rattle.field_ext.specs.Multilinear.{extension_at}
use Rattle.circuit_core.specs.Parts.{padded_values}
use Rattle.gkr_verify.proofs.filling.claim_there.Goals as goal

pub values_extension-requires-clause-fits : goal.values_extension-requires-clause-fits
values_extension-requires-clause-fits g c = omega (arith, c.requires.fits, ap (λ (n : ℕ). 2 ^ n) c.draw_point.auto.point)

pub returns-clause-claim : goal.returns-clause-claim
returns-clause-claim g c =
    c.values_extension.ensures
    ∙ (λ i. extension_at k_ops k_ops (λ x. x) (map embed_k (padded_values (2 ^ c.draw_point.auto.point i) c.args.outputs.now)) (c.draw_point.ensures.point i))
