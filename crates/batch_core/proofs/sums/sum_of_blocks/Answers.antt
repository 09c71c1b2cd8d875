use Rattle.std.proofs.Common.{◌≡◌, ◌<◌, length, take, arith, ◌∙◌, ap, ap₂}
use Rattle.std.proofs.lemmas.List.{get_or_read}
use Rattle.field_ext.specs.Field.{k_ops, zero_k, add_k, mul_k}
use Rattle.field_ext.proofs.api.KLaws.{k_laws}
use Rattle.batch_core.specs.ListedInstances.{block, weighted_sum}
use Rattle.batch_core.proofs.WeightedSums.{sum_below-more}
use Rattle.batch_core.proofs.sums.sum_of_blocks.Goals as goal

pub loop-m-preserved : goal.loop-m-preserved
loop-m-preserved c =
    let m = c.loop-m.m in
    let weights = c.args.weights.now in
    let here : c.split_at-in-loop-m.result.0.now ≡ block (length c.args.weights.now) c.args.values.now c.loop-m.m =
    c.split_at-in-loop-m.ensures.front ∙ ap (take (length c.args.weights.now)) c.split_at.ensures.back in
    let inside : c.loop-m.m < length c.args.outer.now = omega (arith, c.loop-m-test.true, c.requires.outer) in
    sum_below-more k_ops k_laws m _ c.loop-m.sum c.add-sum.result
    (c.add-sum.ensures
    ∙ ap (add_k c.loop-m.sum) (c.mul.ensures
    ∙ ap₂ mul_k (get_or_read c.args.outer.now m c.index-outer-m.result inside c.index-outer-m.is zero_k) (c.weighted_sum.ensures ∙ ap (weighted_sum weights) here)))
    c.loop-m.invariant
