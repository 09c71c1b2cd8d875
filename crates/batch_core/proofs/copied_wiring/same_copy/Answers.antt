use Rattle.std.proofs.Common.{◌≡◌, ◌∙◌, sym, ap}
use Rattle.field_ext.specs.Field.{K, k_ops, mul_k}
use Rattle.field_ext.proofs.api.KLaws.{k_laws}
use Rattle.field_ext.proofs.api.Rings.{one_mul}
use Rattle.batch_core.specs.CopiedWiring.{same_bit, same_bits}
use Rattle.batch_core.proofs.api.ProductForm.{same-product, same_more, same_all}
use Rattle.batch_core.proofs.copied_wiring.same_copy.Goals as goal

pub loop-i-init : goal.loop-i-init
loop-i-init c =
    let all = same_bits k_ops c.args.first.now c.args.second.now c.args.third.now in
    ap (λ (x : K). mul_k x all) c.one-product.ensures ∙ one_mul k_ops k_laws all

pub loop-i-preserved : goal.loop-i-preserved
loop-i-preserved c =
    let step : c.mul-product.result ≡ mul_k c.loop-i.product (same_bit k_ops c.index-first-i.result c.index-second-i.result c.index-third-i.result) =
    c.mul-product.ensures ∙ ap (mul_k c.loop-i.product) c.same_bit.ensures in
    same_more k_ops k_laws c.args.first.now c.args.second.now c.args.third.now c.loop-i.i c.index-first-i.result c.index-second-i.result c.index-third-i.result
    c.loop-i.product c.mul-product.result (same_bits k_ops c.args.first.now c.args.second.now c.args.third.now)
    c.loop-i-test.true c.requires.second c.requires.third c.index-first-i.is c.index-second-i.is c.index-third-i.is step c.loop-i.invariant

pub returns : goal.returns
returns c =
    same_all k_ops k_laws c.args.first.now c.args.second.now c.args.third.now c.loop-i.i c.loop-i.product (same_bits k_ops c.args.first.now c.args.second.now c.args.third.now)
    c.loop-i-test.false c.loop-i.invariant
    ∙ sym (same-product k_ops k_laws c.args.first.now c.args.second.now c.args.third.now c.requires.second c.requires.third)
