use Rattle.std.proofs.Common.{◌≡◌, ◌≢◌, length, get_or, arith, ◌∙◌, ap, ap₂, sym, below_more, get_or-set_same, get_or-set_other, ext_get_or}
use Rattle.std.proofs.lemmas.List.{get_or_read}
use Rattle.field_ext.specs.Field.{k_ops, zero_k, add_k, mul_k, sub_k}
use Rattle.gkr_layers.specs.Sumcheck.{point_between}
use Rattle.field_ext.proofs.api.KLaws.{k_laws}
use Rattle.line_reduce.proofs.Steps.{point-at, length-point}
use Rattle.line_reduce.proofs.point.point_at.Goals as goal

pub loop-j-preserved : goal.loop-j-preserved
loop-j-preserved c =
    let j = c.loop-j.j in
    let u = c.loop-j-test.true in
    let b = c.args.b.now in
    let first = get_or_read b j c.index-b-j.result u c.index-b-j.is zero_k in
    let again = get_or_read b j c.index-b-j-in-loop-j.result u c.index-b-j-in-loop-j.is zero_k in
    let end : c.index-c-j.result ≡ get_or c.args.c.now c.loop-j.j zero_k = get_or_read c.args.c.now j c.index-c-j.result (omega arith) c.index-c-j.is zero_k in
    let step : c.sub.result ≡ sub_k (get_or c.args.c.now c.loop-j.j zero_k) (get_or c.args.b.now c.loop-j.j zero_k) =
    c.sub.ensures ∙ ap₂ sub_k end again in
    let is : c.add.result ≡ get_or (point_between k_ops c.args.b.now c.args.c.now c.args.t) c.loop-j.j zero_k =
    c.add.ensures ∙ ap₂ add_k first (c.mul.ensures ∙ ap (mul_k c.args.t) step) ∙ sym (point-at k_ops k_laws b c.args.c.now c.args.t j u c.requires.end) in
    below_more _ _
    (λ i v. let ne : i ≢ c.loop-j.j = omega arith in get_or-set_other c.loop-j.point j i _ zero_k ne ∙ c.loop-j.invariant i v)
    (get_or-set_same c.loop-j.point j _ zero_k (omega arith) ∙ is)

pub returns : goal.returns
returns c =
    let size = length-point k_ops k_laws c.args.b.now c.args.c.now c.args.t c.requires.end in
    let same : length c.loop-j.point ≡ length (point_between k_ops c.args.b.now c.args.c.now c.args.t) = omega arith in
    ext_get_or zero_k c.loop-j.point (point_between k_ops c.args.b.now c.args.c.now c.args.t) same (λ i v. c.loop-j.invariant i (omega arith))
