-- The places written hold the folded table, and those after them are as they were
use Rattle.std.proofs.Common.{◌≡◌, ℕ, ◌+◌, ◌*◌, ◌<◌, ◌≤◌, get_or}
use Rattle.field_ext.specs.Field.{k_ops, zero_k}
use Rattle.field_ext.specs.Multilinear.{folded}
use Rattle.table_parts.proofs.folding.fold_first.Given as goal

abbrev pub invariant-loop-number : goal.invariant-loop-number
invariant-loop-number g l = record {
  steps : l.steps ≡ l.fn.steps + 128 * l.number;
  done : (i : ℕ) → i < 128 * l.number → get_or l.values i zero_k ≡ get_or (folded k_ops l.fn.values l.r) i zero_k;
  rest : (i : ℕ) → 128 * l.number ≤ i → get_or l.values i zero_k ≡ get_or l.fn.values i zero_k;
}
