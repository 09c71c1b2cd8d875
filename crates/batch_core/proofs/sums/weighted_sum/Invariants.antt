-- The sum of the values so far
use Rattle.std.proofs.Common.{◌≡◌, get_or}
use Rattle.field_ext.specs.Field.{k_ops, zero_k, mul_k, embed_k}
use Rattle.field_ext.specs.Sums.{sum_below}
use Rattle.circuit_core.specs.Parts.{zero_f}
use Rattle.batch_core.proofs.sums.weighted_sum.Given as goal

abbrev pub invariant-loop-i : goal.invariant-loop-i
invariant-loop-i l = l.sum ≡ sum_below k_ops l.i (λ i. mul_k (embed_k (get_or l.values i zero_f)) (get_or l.weights i zero_k))
