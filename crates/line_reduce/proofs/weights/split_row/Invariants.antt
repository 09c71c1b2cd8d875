use Rattle.std.proofs.Common.{◌≡◌, ℕ, ◌+◌, ◌≤◌, ◌<◌, get_or}
use Rattle.field_ext.specs.Field.{K, k_ops, add_k, sub_k, mul_k, zero_k}
use Rattle.line_reduce.specs.Rows.{row_value}
use Rattle.line_reduce.proofs.Steps.{carried}
use Rattle.line_reduce.proofs.weights.split_row.Given as goal

abbrev pub invariant-loop-i : goal.invariant-loop-i
invariant-loop-i l = record {
  high : (e : K) → carried k_ops l.rows l.to l.i l.carry e ≡ mul_k (add_k l.start (mul_k e l.step)) (row_value k_ops l.fn.rows l.at l.i e);
  low : (e : K) → row_value k_ops l.rows l.at l.i e ≡ sub_k (row_value k_ops l.fn.rows l.at l.i e) (row_value k_ops l.rows l.to l.i e);
  before : (x : ℕ) → x < l.at → get_or l.rows x zero_k ≡ get_or l.fn.rows x zero_k;
  unread : (x : ℕ) → l.at + l.i ≤ x → x < l.to → get_or l.rows x zero_k ≡ get_or l.fn.rows x zero_k;
  after : (x : ℕ) → l.to + l.i ≤ x → get_or l.rows x zero_k ≡ get_or l.fn.rows x zero_k;
}
