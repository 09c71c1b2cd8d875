use Rattle.std.proofs.Common.{◌≡◌, ℕ, ◌<◌, ◌+◌, ◌*◌, get_or, map}
use Rattle.field_ext.specs.Field.{k_ops, zero_k, embed_k}
use Rattle.line_reduce.specs.Rows.{weighted_sum}
use Rattle.line_reduce.proofs.blocks.fill_rows.Given as goal

abbrev pub invariant-loop-p : goal.invariant-loop-p
invariant-loop-p l = (p j : ℕ) → p < l.p → j < l.n → get_or l.rows (p * l.n + j) zero_k ≡ weighted_sum k_ops (map embed_k l.values) (p * (4 * l.fours)) l.weights j l.n (4 * l.fours)
