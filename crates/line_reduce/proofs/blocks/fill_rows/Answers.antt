use Rattle.std.proofs.Common.{◌≡◌, ◌+◌, ◌*◌, get_or, map, arith, ◌∙◌, below_more}
use Rattle.field_ext.specs.Field.{k_ops, zero_k, embed_k}
use Rattle.line_reduce.specs.Rows.{weighted_sum}
use Rattle.line_reduce.proofs.Steps.{row_fits}
use Rattle.line_reduce.proofs.blocks.fill_rows.Goals as goal

pub loop-p-preserved : goal.loop-p-preserved
loop-p-preserved c q j v u =
    let n = c.args.n in
    let p = c.loop-p.p in
    below_more
    (λ q. get_or c.fill_row.new.rows (q * c.args.n + j) zero_k ≡ weighted_sum k_ops (map embed_k c.args.values.now) (q * (4 * c.args.fours)) c.args.weights.now j c.args.n (4 * c.args.fours)) c.loop-p.p
    (λ q v.
    let fits = row_fits q p n v in
    c.fill_row.ensures.before (q * n + j) (omega (arith, fits, u)) ∙ c.loop-p.invariant q j v u)
    (c.fill_row.ensures.row j u) q v
