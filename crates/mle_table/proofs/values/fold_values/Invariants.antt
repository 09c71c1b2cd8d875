-- The places written hold the folded table, and those after them are as they were
use Rattle.std.proofs.Common.{◌≡◌, ℕ, ◌<◌, ◌≤◌, vec_len, get_or}
use Rattle.field_ext.specs.Field.{k_ops, zero_k}
use Rattle.field_ext.specs.Multilinear.{folded}
use Rattle.mle_table.proofs.values.fold_values.Given as goal

abbrev pub invariant-loop-j : goal.invariant-loop-j
invariant-loop-j l = record {
  same_length : vec_len l.values ≡ vec_len l.fn.values;
  done : (i : ℕ) → i < l.j → get_or l.values.items i zero_k ≡ get_or (folded k_ops l.fn.values.items l.r) i zero_k;
  rest : (i : ℕ) → l.j ≤ i → get_or l.values.items i zero_k ≡ get_or l.fn.values.items i zero_k;
}
