use Rattle.std.proofs.Common.{◌+◌, ◌^◌, ◌<◌, ◌≤◌, length, arith, ◌∙◌, ap, ap₂}
use Rattle.std.proofs.lemmas.List.{get_or_read}
use Rattle.field_ext.specs.Field.{k_ops, add_k, mul_k, embed_k}
use Rattle.field_ext.specs.Multilinear.{eq_poly}
use Rattle.mle_table.proofs.api.EqualitySteps.{pow_up}
use Rattle.circuit_core.specs.Parts.{zero_f}
use Rattle.gkr_verify.proofs.TableSteps.{sum_begun, sum_more, sum_all}
use Rattle.gkr_verify.proofs.extension.values_extension.Goals as goal

pub loop-i-init : goal.loop-i-init
loop-i-init c = sum_begun (2 ^ length c.args.point.now) c.args.values.now (eq_poly k_ops c.args.point.now) c.zero-sum.result c.zero-sum.ensures

pub value-requires : goal.value-requires
value-requires c =
    let most : 2 ^ length c.args.point.now ≤ 1048576 = pow_up (length c.args.point.now) 20 c.requires.few in
    omega (arith, most, c.loop-i-test.true, c.requires.fits)

pub loop-i-preserved : goal.loop-i-preserved
loop-i-preserved c =
    let point = c.args.point.now in
    let values = c.args.values.now in
    let i = c.loop-i.i in
    let inside : c.loop-i.i + 1 < 2 ^ length c.args.point.now = omega (arith, c.loop-i-test.true, c.requires.fits) in
    let here = get_or_read values i c.index-values-i.result c.loop-i-test.true c.index-values-i.is zero_f in
    sum_more (2 ^ length point) values (eq_poly k_ops point) i c.loop-i.sum _
    (c.add-sum.ensures ∙ ap (add_k c.loop-i.sum) (c.mul.ensures ∙ ap₂ mul_k (c.embed.ensures ∙ ap embed_k here) (c.value.ensures point c.at-equality.ensures inside)))
    c.loop-i.invariant

pub returns : goal.returns
returns c =
    let point = c.args.point.now in
    let all : c.loop-i.i + 1 ≤ 2 ^ length c.args.point.now = omega (arith, c.loop-i.auto.i-end, c.requires.fits) in
    sum_all (2 ^ length point) c.args.values.now (eq_poly k_ops point) c.loop-i.i (2 ^ length point) c.loop-i.sum c.loop-i-test.false all c.loop-i.invariant
