-- Each step writes one value of the folded table
use Rattle.std.proofs.Common.{◌≡◌, ◌≢◌, ◌<◌, ◌+◌, ◌*◌, length, get_or, refl, ◌∙◌, ap, ap₂, arith, below_more, get_or-set_same, get_or-set_other, ext_get_or}
use Rattle.std.proofs.lemmas.List.{get_or_read}
use Rattle.field_ext.specs.Field.{K, k_ops, add_k, mul_k, neg_k, zero_k}
use Rattle.field_ext.specs.Multilinear.{folded}
use Rattle.field_ext.proofs.api.KLaws.{k_laws}
use Rattle.mle_table.proofs.api.Steps.{fold_element, length-fold}
use Rattle.mle_table.proofs.values.fold_slice.Goals as goal

pub loop-j-preserved : goal.loop-j-preserved
loop-j-preserved c =
    let t = c.args.values.now in
    let buffer = c.loop-j.buffer in
    let j = c.loop-j.j in
    let inside : c.loop-j.j < length c.loop-j.buffer = omega (arith, c.loop-j-test.true, c.loop-j.auto.buffer) in
    let low_in : 2 * c.loop-j.j < length c.args.values.now = omega (arith, inside, c.loop-j.auto.buffer, c.requires) in
    let high_in : 2 * c.loop-j.j + 1 < length c.args.values.now = omega (arith, inside, c.loop-j.auto.buffer, c.requires) in
    let low : c.index-values-j.result ≡ get_or t (2 * j) zero_k = get_or_read t (2 * j) c.index-values-j.result low_in c.index-values-j.is zero_k in
    let high : c.index-values-j-in-loop-j.result ≡ get_or t (2 * j + 1) zero_k =
    get_or_read t (2 * j + 1) c.index-values-j-in-loop-j.result high_in c.index-values-j-in-loop-j.is zero_k in
    let is : c.add.result ≡ get_or (folded k_ops c.args.values.now c.args.r) j zero_k =
    c.add.ensures ∙ ap (add_k c.index-values-j.result) (c.mul.ensures ∙ ap (mul_k c.args.r) c.sub.ensures)
    ∙ ap₂ (λ (a b : K). add_k a (mul_k c.args.r (add_k b (neg_k a)))) low high
    ∙ fold_element k_ops k_laws t t c.args.r j (λ i u. refl) in
    below_more _ _ (λ i u. let ne : i ≢ c.loop-j.j = omega arith in get_or-set_other buffer j i _ zero_k ne ∙ c.loop-j.invariant i u) (get_or-set_same buffer j _ zero_k inside ∙ is)

pub returns : goal.returns
returns c =
    let size : length (folded k_ops c.args.values.now c.args.r) ≡ length c.args.buffer.now = length-fold k_ops k_laws c.args.values.now c.args.r (length c.args.buffer.now) c.requires in
    ext_get_or zero_k c.loop-j.buffer (folded k_ops c.args.values.now c.args.r) (omega (arith, size, c.loop-j.auto.buffer))
    (λ i u. c.loop-j.invariant i (omega (arith, u, c.loop-j-test.false, c.loop-j.auto.buffer)))
