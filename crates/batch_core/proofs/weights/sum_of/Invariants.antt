-- The sum of the values so far
use Rattle.std.proofs.Common.{◌≡◌, get_or}
use Rattle.field_ext.specs.Field.{k_ops, zero_k}
use Rattle.field_ext.specs.Sums.{sum_below}
use Rattle.batch_core.proofs.weights.sum_of.Given as goal

abbrev pub invariant-loop-i : goal.invariant-loop-i
invariant-loop-i l = l.sum ≡ sum_below k_ops l.i (λ i. get_or l.values i zero_k)
