-- The values done are split, and the others are as they were
use Rattle.std.proofs.Common.{◌≡◌, ℕ, ◌+◌, ◌<◌, ◌≤◌, ◌*◌, get_or}
use Rattle.field_ext.specs.Field.{zero_k, add_k, mul_k, neg_k}
use Rattle.mle_table.proofs.equality.extend_equality.Given as goal

abbrev pub invariant-loop-g : goal.invariant-loop-g
invariant-loop-g l = record {
  low : (i : ℕ) → i < l.g → get_or l.table i zero_k ≡ add_k (get_or l.fn.table i zero_k) (neg_k (mul_k (get_or l.fn.table i zero_k) l.u));
  high : (i : ℕ) → i < l.g → get_or l.table (l.size + i) zero_k ≡ mul_k (get_or l.fn.table i zero_k) l.u;
  rest : (i : ℕ) → l.g ≤ i → i < l.size → get_or l.table i zero_k ≡ get_or l.fn.table i zero_k;
  behind : (i : ℕ) → 2 * l.size ≤ i → get_or l.table i zero_k ≡ get_or l.fn.table i zero_k;
}
