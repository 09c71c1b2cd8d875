-- The coefficients before are the same
use Rattle.std.proofs.Common.{◌≡◌, ℕ, ◌<◌, get_or}
use Rattle.field_ext.specs.Field.{zero_k}
use Rattle.audit_core.proofs.found.are_equal.Given as goal

abbrev pub invariant-loop-i : goal.invariant-loop-i
invariant-loop-i l = (j : ℕ) → j < l.i → get_or l.message j zero_k ≡ get_or l.truth j zero_k
