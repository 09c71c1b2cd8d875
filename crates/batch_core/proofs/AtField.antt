-- The laws at the field
use Rattle.std.proofs.Common.{◌≡◌, ℕ, ◌^◌, List, ◌++◌, length, All}
use Rattle.field_ext.specs.Field.{K, k_ops, mul_k}
use Rattle.field_ext.proofs.api.KLaws.{k_laws}
use Rattle.circuit_core.specs.declared.gate.CircuitGate.{CircuitGate}
use Rattle.circuit_core.specs.Parts.{IsOver}
use Rattle.wiring_poly.specs.Wiring.{wiring_add, wiring_mul}
use Rattle.batch_core.specs.Copies.{copies}
use Rattle.batch_core.specs.CopiedWiring.{same_copy, same_bits}
use Rattle.batch_core.proofs.api.ProductForm.{copied_add, copied_mul, same-product}

pub k_copied_add : (j k n : ℕ) (gates : List CircuitGate) (z b c y x w : List K) → length gates ≡ 2 ^ j → All (IsOver (2 ^ k)) gates → length z ≡ j → length b ≡ k → length c ≡ k → length y ≡ n →
    wiring_add k_ops (copies n k gates) (z ++ y) (b ++ x) (c ++ w) ≡ mul_k (same_copy k_ops y x w) (wiring_add k_ops gates z b c)
k_copied_add = copied_add k_ops k_laws

pub k_copied_mul : (j k n : ℕ) (gates : List CircuitGate) (z b c y x w : List K) → length gates ≡ 2 ^ j → All (IsOver (2 ^ k)) gates → length z ≡ j → length b ≡ k → length c ≡ k → length y ≡ n →
    wiring_mul k_ops (copies n k gates) (z ++ y) (b ++ x) (c ++ w) ≡ mul_k (same_copy k_ops y x w) (wiring_mul k_ops gates z b c)
k_copied_mul = copied_mul k_ops k_laws

pub k_same : (y x w : List K) → length x ≡ length y → length w ≡ length y → same_copy k_ops y x w ≡ same_bits k_ops y x w
k_same = same-product k_ops k_laws
