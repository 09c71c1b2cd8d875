-- One fold more
use Rattle.std.proofs.Common.{◌≡◌, ◌≢◌, ◌*◌, ◌+◌, arith, refl, ◌∙◌, ap, ap₂, get_or, below_more, get_or-set_same, get_or-set_other}
use Rattle.std.proofs.lemmas.List.{get_or_read}
use Rattle.field_ext.specs.Field.{K, k_ops, add_k, mul_k, neg_k, zero_k}
use Rattle.field_ext.proofs.api.KLaws.{k_laws}
use Rattle.field_ext.specs.Multilinear.{folded}
use Rattle.mle_table.proofs.api.Steps.{fold_element}
use Rattle.table_parts.proofs.folding.fold_into.Goals as goal

pub loop-i-preserved : goal.loop-i-preserved
loop-i-preserved g c =
    let t = c.args.values.now in
    let j = c.args.from + c.loop-i.i in
    let r = c.args.r in
    let low : c.index-values-from.result ≡ get_or t (2 * j) zero_k = get_or_read t (2 * j) c.index-values-from.result (omega arith) c.index-values-from.is zero_k in
    let high : c.index-values-from-in-loop-i.result ≡ get_or t (2 * j + 1) zero_k = get_or_read t (2 * j + 1) c.index-values-from-in-loop-i.result (omega arith) c.index-values-from-in-loop-i.is zero_k in
    let is : c.add.result ≡ get_or (folded k_ops c.args.values.now c.args.r) j zero_k =
    c.add.ensures ∙ ap (add_k c.index-values-from.result) (c.times.ensures ∙ ap (mul_k r) c.difference.ensures.value)
    ∙ ap₂ (λ (a b : K). add_k a (mul_k r (add_k b (neg_k a)))) low high
    ∙ fold_element k_ops k_laws c.args.values.now t r j (λ i u. refl) in
    record {
      steps = omega arith;
      folds = below_more _ _ (λ i u. let ne : i ≢ c.loop-i.i = omega arith in get_or-set_other c.loop-i.block c.loop-i.i i _ zero_k ne ∙ c.loop-i.invariant.folds i u) (get_or-set_same c.loop-i.block c.loop-i.i _ zero_k (omega arith) ∙ is);
    }
