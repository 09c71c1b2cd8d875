-- The places passed hold 0
use Rattle.std.proofs.Common.{◌≡◌, ℕ, ◌<◌, get_or}
use Rattle.field_ext.specs.Field.{zero_k}
use Rattle.gate_gather.proofs.zeros.clear.Given as goal

abbrev pub invariant-loop-value : goal.invariant-loop-value
invariant-loop-value l = (i : ℕ) → i < l.value-index → get_or l.table i zero_k ≡ zero_k
