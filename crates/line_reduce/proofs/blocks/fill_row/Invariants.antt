use Rattle.std.proofs.Common.{◌≡◌, ℕ, ◌<◌, ◌+◌, ◌*◌, get_or, map}
use Rattle.field_ext.specs.Field.{k_ops, zero_k, embed_k}
use Rattle.line_reduce.specs.Rows.{weighted_sum}
use Rattle.line_reduce.proofs.blocks.fill_row.Given as goal

abbrev pub invariant-loop-j : goal.invariant-loop-j
invariant-loop-j l = record {
  row : (i : ℕ) → i < l.j → get_or l.rows (l.to + i) zero_k ≡ weighted_sum k_ops (map embed_k l.values) l.at l.weights i l.n (4 * l.fours);
  before : (x : ℕ) → x < l.to → get_or l.rows x zero_k ≡ get_or l.fn.rows x zero_k;
}
