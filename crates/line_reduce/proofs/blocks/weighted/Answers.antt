use Rattle.std.proofs.Common.{◌≡◌, ◌+◌, ◌*◌, ℕ, arith, sym, ◌∙◌, ap, ap₂, get_or, map}
use Rattle.field_ext.specs.Field.{k_ops, zero_k, add_k, mul_k, embed_k}
use Rattle.field_ext.proofs.api.KLaws.{k_laws}
use Rattle.wiring_poly.proofs.api.Sums.{sum_below-append}
use Rattle.mle_table.proofs.api.SumLaws.{sum_below-same}
use Rattle.line_reduce.specs.Rows.{weighted_sum}
use Rattle.line_reduce.proofs.blocks.weighted.Goals as goal

pub loop-i-preserved : goal.loop-i-preserved
loop-i-preserved c =
    let i = c.loop-i.i in
    let n = c.args.n in
    let next : 4 * c.loop-i.i + 4 ≡ 4 * (c.loop-i.i + 1) = omega arith in
    c.add-sum.ensures
    ∙ ap₂ add_k c.loop-i.invariant
    (c.four.ensures ∙ sum_below-same k_ops k_laws 4 _ _ (λ q u.
    let at : c.args.at + 4 * c.loop-i.i + q ≡ c.args.at + (4 * c.loop-i.i + q) = omega arith in
    let place : c.args.column + 4 * c.loop-i.i * c.args.n + q * c.args.n ≡ c.args.column + (4 * c.loop-i.i + q) * c.args.n = omega arith in
    ap₂ (λ (x y : ℕ). mul_k (get_or (map embed_k c.args.values.now) x zero_k) (get_or c.args.weights.now y zero_k)) at place))
    ∙ sym (sum_below-append k_ops k_laws (4 * i) 4 (λ q. mul_k (get_or (map embed_k c.args.values.now) (c.args.at + q) zero_k) (get_or c.args.weights.now (c.args.column + q * n) zero_k)))
    ∙ ap (weighted_sum k_ops (map embed_k c.args.values.now) c.args.at c.args.weights.now c.args.column n) next
