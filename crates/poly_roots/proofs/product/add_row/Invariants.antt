-- The row's part is added up to the loop's place, and all else is as it was
use Rattle.std.proofs.Common.{◌≡◌, ℕ, ◌<◌, ◌≤◌, ◌+◌, get_or}
use Rattle.field_ext.specs.Field.{zero_k, add_k, mul_k}
use Rattle.poly_roots.proofs.product.add_row.Given as goal

abbrev pub invariant-loop-i : goal.invariant-loop-i
invariant-loop-i l = record {
  before : (k : ℕ) → k < l.row → get_or l.buffer k zero_k ≡ get_or l.fn.buffer k zero_k;
  done : (k : ℕ) → k < l.i → get_or l.buffer (l.row + k) zero_k ≡ add_k (get_or l.fn.buffer (l.row + k) zero_k) (mul_k l.c (get_or l.coefficients k zero_k));
  rest : (k : ℕ) → l.i ≤ k → get_or l.buffer (l.row + k) zero_k ≡ get_or l.fn.buffer (l.row + k) zero_k;
}
