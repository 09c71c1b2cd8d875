-- The places so far are 0
use Rattle.std.proofs.Common.{◌≡◌, ℕ, ◌<◌, get_or}
use Rattle.field_ext.specs.Field.{zero_k}
use Rattle.batch_core.proofs.value_weights.clear.Given as goal

abbrev pub invariant-loop-i : goal.invariant-loop-i
invariant-loop-i l = (k : ℕ) → k < l.i → get_or l.weights k zero_k ≡ zero_k
