use Rattle.std.proofs.Common.{◌≡◌, ℕ, ◌+◌, ◌*◌, ◌≤◌, ◌<◌, get_or}
use Rattle.field_ext.specs.Field.{K, k_ops, add_k, sub_k, mul_k, zero_k}
use Rattle.line_reduce.specs.Rows.{row_value}
use Rattle.line_reduce.proofs.weights.split_rows.Given as goal

abbrev pub invariant-loop-q : goal.invariant-loop-q
invariant-loop-q l = record {
  high : (e : K) (q : ℕ) → q < l.q → row_value k_ops l.rows ((l.size + q) * l.width) (l.n + 1) e ≡ mul_k (add_k l.start (mul_k e l.step)) (row_value k_ops l.fn.rows (q * l.width) l.n e);
  low : (e : K) (q : ℕ) → q < l.q → row_value k_ops l.rows (q * l.width) (l.n + 1) e
      ≡ sub_k (row_value k_ops l.fn.rows (q * l.width) l.n e) (mul_k (add_k l.start (mul_k e l.step)) (row_value k_ops l.fn.rows (q * l.width) l.n e));
  unread : (x : ℕ) → l.q * l.width ≤ x → x < l.size * l.width → get_or l.rows x zero_k ≡ get_or l.fn.rows x zero_k;
}
