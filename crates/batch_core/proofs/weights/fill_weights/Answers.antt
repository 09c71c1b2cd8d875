use Rattle.std.proofs.Common.{◌≡◌, ◌^◌, ◌∙◌, ap, arith, List, length, get_or}
use Rattle.field_ext.specs.Field.{K, k_ops, zero_k}
use Rattle.field_ext.specs.Sums.{sum_below}
use Rattle.field_ext.proofs.api.KLaws.{k_laws}
use Rattle.batch_core.proofs.FilledWeights.{filled_weights}
use Rattle.batch_core.proofs.weights.fill_weights.Goals as goal

pub returns : goal.returns
returns c m u =
    let t = c.fill_equality.new.table in
    let size : length c.fill_equality.new.table ≡ 2 ^ length c.args.point.now = omega (arith, c.fill_equality.auto.table, c.requires.room) in
    filled_weights k_ops k_laws t c.args.point.now c.args.count m c.sum_of-last.result size c.requires.some c.requires.copies c.fill_equality.ensures.filled
    (c.sum_of-last.ensures ∙ ap (λ (values : List K). sum_below k_ops (length values) (λ i. get_or values i zero_k)) c.split_at.ensures.back) u
