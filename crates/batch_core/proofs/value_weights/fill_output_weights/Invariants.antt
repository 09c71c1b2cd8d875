-- The places so far hold the equality polynomial's values
use Rattle.std.proofs.Common.{◌≡◌, ℕ, ◌+◌, ◌<◌, get_or}
use Rattle.field_ext.specs.Field.{k_ops, zero_k}
use Rattle.field_ext.specs.Multilinear.{eq_poly}
use Rattle.batch_core.proofs.value_weights.fill_output_weights.Given as goal

abbrev pub invariant-loop-i : goal.invariant-loop-i
invariant-loop-i l = (k : ℕ) → k < l.i → get_or l.weights k zero_k ≡ eq_poly k_ops l.point (k + 1)
