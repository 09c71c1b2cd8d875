-- The places written hold the folded table
use Rattle.std.proofs.Common.{◌≡◌, ℕ, ◌<◌, get_or}
use Rattle.field_ext.specs.Field.{k_ops, zero_k}
use Rattle.field_ext.specs.Multilinear.{folded}
use Rattle.mle_table.proofs.values.fold_slice.Given as goal

abbrev pub invariant-loop-j : goal.invariant-loop-j
invariant-loop-j l = (i : ℕ) → i < l.j → get_or l.buffer i zero_k ≡ get_or (folded k_ops l.values l.r) i zero_k
