-- The places written hold folds
use Rattle.std.proofs.Common.{◌≡◌, ℕ, ◌+◌, ◌<◌, get_or}
use Rattle.field_ext.specs.Field.{k_ops, zero_k}
use Rattle.field_ext.specs.Multilinear.{folded}
use Rattle.table_parts.proofs.folding.fold_into.Given as goal

abbrev pub invariant-loop-i : goal.invariant-loop-i
invariant-loop-i g l = record {
  steps : l.steps ≡ l.fn.steps + l.i;
  folds : (i : ℕ) → i < l.i → get_or l.block i zero_k ≡ get_or (folded k_ops l.values l.r) (l.from + i) zero_k;
}
