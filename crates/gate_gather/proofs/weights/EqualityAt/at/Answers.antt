-- The value is one of the two tables' products
use Rattle.std.proofs.Common.{◌∙◌, ◌^◌, ◌<◌, List, length, ap, arith}
use Rattle.field_ext.specs.Field.{K, k_ops}
use Rattle.field_ext.specs.Multilinear.{eq_poly}
use Rattle.mle_table.proofs.api.EqualitySteps.{pow_up}
use Rattle.gate_gather.proofs.weights.EqualityAt.at.Goals as goal

pub value-requires : goal.value-requires
value-requires c = omega (arith, pow_up (length c.self.inside.point.now) 20 c.self.invariant.0, ap (λ (p : List K). 2 ^ length p) c.self.view_is, c.requires)

pub returns : goal.returns
returns c =
    let within : c.args.g < 2 ^ length c.self.inside.point.now = omega (arith, ap (λ (p : List K). 2 ^ length p) c.self.view_is, c.requires) in
    c.value.ensures c.self.inside.point.now c.self.invariant.1 within ∙ ap (λ (p : List K). eq_poly k_ops p c.args.g) c.self.view_is
