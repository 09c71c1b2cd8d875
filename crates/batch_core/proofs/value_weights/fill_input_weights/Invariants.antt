-- What the leaves so far add, for every list of inputs
use Rattle.std.proofs.Common.{◌≡◌, ◌+◌, List, length, map, get_or}
use Rattle.field_ext.specs.Field.{F, k_ops, add_k, mul_k, embed_k}
use Rattle.field_ext.specs.Sums.{sum_below}
use Rattle.field_ext.specs.Multilinear.{eq_poly}
use Rattle.circuit_core.specs.Parts.{leaf_value, zero_f}
use Rattle.batch_core.specs.ListedInstances.{weighted_sum}
use Rattle.batch_core.proofs.value_weights.fill_input_weights.Given as goal

abbrev pub invariant-loop-i : goal.invariant-loop-i
invariant-loop-i l = (inputs : List F) → length inputs ≡ length l.weights →
    add_k l.constants (weighted_sum l.weights inputs)
    ≡ sum_below k_ops l.i (λ g. mul_k (embed_k (get_or (map (leaf_value inputs) l.leaves) g zero_f)) (eq_poly k_ops l.point (g + 1)))
