-- A gate changes one value of each table, if its place is there
use Rattle.std.proofs.Common.{◌∙◌, get_or, length, map}
use Rattle.wiring_poly.specs.Wiring.{by_kind}
use Rattle.field_ext.specs.Field.{k_ops, mul_k, zero_k, embed_k}
use Rattle.field_ext.proofs.api.KLaws.{k_laws}
use Rattle.mle_table.proofs.api.Written.{embedded_read}
use Rattle.gate_gather.specs.Gathering.{left_scale, left_shift}
use Rattle.gate_gather.proofs.Sent.{sent, not_sent}
use Rattle.gate_gather.proofs.gathering.send_left.Goals as goal

pub returns-clause-scales : goal.returns-clause-scales
returns-clause-scales g c x u =
    let gate = c.args.gate in
    let value = embedded_read c.args.values.now gate.right c.index-values-gate.result c.embed-value.result c.requires.in_range c.index-values-gate.is c.embed-value.ensures in
    let factor = c.at-factor.ensures in
    let product = c.times-product.ensures ∙ (λ i. mul_k (factor i) (value i)) in
    sent k_ops k_laws c.in-Some.place gate.left c.args.from x (get_or c.args.scales.now x zero_k) (get_or c.add_at.new.table x zero_k) c.pick.result (left_scale k_ops (g.W.Weights.weight c.args.weights.now) (map embed_k c.args.values.now) c.args.position gate)
    c.in-Some.ensures.some.0 (c.pick.ensures ∙ (λ i. by_kind gate.kind (factor i) (product i))) (c.add_at.ensures x)

pub returns-clause-shifts : goal.returns-clause-shifts
returns-clause-shifts g c x u =
    let gate = c.args.gate in
    let value = embedded_read c.args.values.now gate.right c.index-values-gate.result c.embed-value.result c.requires.in_range c.index-values-gate.is c.embed-value.ensures in
    let factor = c.at-factor.ensures in
    let product = c.times-product.ensures ∙ (λ i. mul_k (factor i) (value i)) in
    sent k_ops k_laws c.in-Some.place gate.left c.args.from x (get_or c.args.shifts.now x zero_k) (get_or c.add_at-2.new.table x zero_k) c.pick-2.result (left_shift k_ops (g.W.Weights.weight c.args.weights.now) (map embed_k c.args.values.now) c.args.position gate)
    c.in-Some.ensures.some.0 (c.pick-2.ensures ∙ (λ i. by_kind gate.kind (product i) (c.zero.ensures i))) (c.add_at-2.ensures x)

pub returns-in_default-clause-scales : goal.returns-in_default-clause-scales
returns-in_default-clause-scales g c x u =
    not_sent k_ops k_laws (length c.args.scales.now) c.args.gate.left c.args.from x (get_or c.args.scales.now x zero_k) (left_scale k_ops (g.W.Weights.weight c.args.weights.now) (map embed_k c.args.values.now) c.args.position c.args.gate) c.in_default.ensures.none u

pub returns-in_default-clause-shifts : goal.returns-in_default-clause-shifts
returns-in_default-clause-shifts g c x u =
    not_sent k_ops k_laws (length c.args.scales.now) c.args.gate.left c.args.from x (get_or c.args.shifts.now x zero_k) (left_shift k_ops (g.W.Weights.weight c.args.weights.now) (map embed_k c.args.values.now) c.args.position c.args.gate) c.in_default.ensures.none u
