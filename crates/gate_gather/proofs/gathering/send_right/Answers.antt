-- A gate changes one value of the table of its kind, if its place is there
use Rattle.std.proofs.Common.{◌∙◌, ap₂, get_or, length}
use Rattle.wiring_poly.specs.Wiring.{by_kind}
use Rattle.field_ext.specs.Field.{k_ops, mul_k, zero_k}
use Rattle.field_ext.specs.Multilinear.{eq_poly}
use Rattle.field_ext.proofs.api.KLaws.{k_laws}
use Rattle.gate_gather.specs.Gathering.{add_factor, mul_factor}
use Rattle.gate_gather.proofs.Sent.{sent, not_sent}
use Rattle.gate_gather.proofs.gathering.send_right.Goals as goal

pub returns-clause-adds : goal.returns-clause-adds
returns-clause-adds g c x u =
    let gate = c.args.gate in
    let factor = c.mul-factor.ensures ∙ ap₂ mul_k c.at.ensures c.at-2.ensures in
    sent k_ops k_laws c.in-Some.place gate.right c.args.from x (get_or c.args.adds.now x zero_k) (get_or c.add_at.new.table x zero_k) c.pick.result
    (add_factor k_ops (g.W.Weights.weight c.args.weights.now) (eq_poly k_ops c.args.left.now) c.args.position gate)
    c.in-Some.ensures.some.0 (c.pick.ensures ∙ ap₂ (by_kind gate.kind) factor c.zero.ensures) (c.add_at.ensures x)

pub returns-clause-muls : goal.returns-clause-muls
returns-clause-muls g c x u =
    let gate = c.args.gate in
    let factor = c.mul-factor.ensures ∙ ap₂ mul_k c.at.ensures c.at-2.ensures in
    sent k_ops k_laws c.in-Some.place gate.right c.args.from x (get_or c.args.muls.now x zero_k) (get_or c.add_at-2.new.table x zero_k) c.pick-2.result
    (mul_factor k_ops (g.W.Weights.weight c.args.weights.now) (eq_poly k_ops c.args.left.now) c.args.position gate)
    c.in-Some.ensures.some.0 (c.pick-2.ensures ∙ ap₂ (by_kind gate.kind) c.zero-2.ensures factor) (c.add_at-2.ensures x)

pub returns-in_default-clause-adds : goal.returns-in_default-clause-adds
returns-in_default-clause-adds g c x u =
    not_sent k_ops k_laws (length c.args.adds.now) c.args.gate.right c.args.from x (get_or c.args.adds.now x zero_k) (add_factor k_ops (g.W.Weights.weight c.args.weights.now) (eq_poly k_ops c.args.left.now) c.args.position c.args.gate) c.in_default.ensures.none u

pub returns-in_default-clause-muls : goal.returns-in_default-clause-muls
returns-in_default-clause-muls g c x u =
    not_sent k_ops k_laws (length c.args.adds.now) c.args.gate.right c.args.from x (get_or c.args.muls.now x zero_k) (mul_factor k_ops (g.W.Weights.weight c.args.weights.now) (eq_poly k_ops c.args.left.now) c.args.position c.args.gate) c.in_default.ensures.none u
