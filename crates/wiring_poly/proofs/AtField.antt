-- The law at the field
use Rattle.std.proofs.Common.{◌≡◌, ℕ, ◌+◌, ◌^◌, List, length, All}
use Rattle.field_ext.specs.Field.{K, k_ops}
use Rattle.field_ext.specs.Sums.{sum_cube}
use Rattle.field_ext.specs.Multilinear.{extension_at}
use Rattle.field_ext.proofs.api.KLaws.{k_laws}
use Rattle.circuit_core.specs.declared.gate.CircuitGate.{CircuitGate}
use Rattle.circuit_core.specs.Parts.{IsOver}
use Rattle.wiring_poly.specs.Wiring.{summand_at, values_above}
use Rattle.wiring_poly.proofs.api.Identity.{layer_sum}

pub k_layer_sum : (k : ℕ) (gates : List CircuitGate) (below z : List K) → length gates ≡ 2 ^ length z → All (IsOver (2 ^ k)) gates →
    extension_at k_ops k_ops (λ x. x) (values_above k_ops gates below) z ≡ sum_cube k_ops (k + k) (λ w. summand_at k_ops k_ops (λ x. x) k gates below z w)
k_layer_sum = layer_sum k_ops k_laws
