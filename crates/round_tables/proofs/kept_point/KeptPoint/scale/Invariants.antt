-- The values passed are scaled, and the others are as they were
use Rattle.std.proofs.Common.{◌≡◌, ℕ, ◌<◌, ◌≤◌, get_or, vec_len}
use Rattle.field_ext.specs.Field.{mul_k, zero_k}
use Rattle.round_tables.proofs.kept_point.KeptPoint.scale.Given as goal

abbrev pub invariant-loop-i : goal.invariant-loop-i
invariant-loop-i l = record {
  point : l.self.point ≡ l.fn.self.point;
  low : l.self.low ≡ l.fn.self.low;
  len : vec_len l.self.high ≡ vec_len l.fn.self.high;
  done : (i : ℕ) → i < l.i → get_or l.self.high.items i zero_k ≡ mul_k l.fn.weight (get_or l.fn.self.high.items i zero_k);
  rest : (i : ℕ) → l.i ≤ i → get_or l.self.high.items i zero_k ≡ get_or l.fn.self.high.items i zero_k;
}
