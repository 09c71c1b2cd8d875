-- The claim of a batch of one instance is that of its circuit
use Rattle.std.proofs.Common.{◌≡◌, ℕ, ◌+◌, ◌*◌, ◌^◌, List, [], ◌∷◌, ◌++◌, map, refl, ap₂, arith}
use Rattle.field_ext.specs.Field.{F}
use Rattle.circuit_core.specs.declared.gate.CircuitGate.{CircuitGate}
use Rattle.circuit_core.specs.Parts.{Parts}
use Rattle.circuit_core.specs.Sound.{exponent_at}
use Rattle.proof_wire.specs.declared.form.ProofForm.{ProofForm}
use Rattle.gkr_layers.specs.Layers.{GateLayer, layers_of}
use Rattle.gkr_layers.specs.Acceptance.{claim_in}
use Rattle.batch_core.specs.Copies.{moved, copied_layer, copied_layers}
use Rattle.batch_core.specs.BatchClaim.{Instance, claim_of_batch}

not_moved : (by : ℕ) (gate : CircuitGate) → by ≡ 0 → moved by gate ≡ gate
not_moved by gate e =
    let left : by + gate.left ≡ gate.left = omega arith in
    let right : by + gate.right ≡ gate.right = omega arith in
    λ i. record { kind = gate.kind; left = left i; right = right i }

none_moved : (by : ℕ) (gates : List CircuitGate) → by ≡ 0 → map (moved by) gates ≡ gates
none_moved by [] e = refl
none_moved by (gate ∷ gates) e = ap₂ (λ (g : CircuitGate) (gs : List CircuitGate). g ∷ gs) (not_moved by gate e) (none_moved by gates e)

one_copy : (layer : GateLayer) → copied_layer 0 layer ≡ layer
one_copy layer =
    let k : layer.k + 0 ≡ layer.k = omega arith in
    let none : 0 * 2 ^ layer.k ≡ 0 = omega arith in
    let gates : map (moved (0 * 2 ^ layer.k)) layer.gates ≡ layer.gates = none_moved (0 * 2 ^ layer.k) layer.gates none in
    λ i. record { k = k i; gates = gates i }

one_copy_each : (layers : List GateLayer) → copied_layers 0 layers ≡ layers
one_copy_each [] = refl
one_copy_each (layer ∷ layers) = ap₂ (λ (x : GateLayer) (xs : List GateLayer). x ∷ xs) (one_copy layer) (one_copy_each layers)

pub one_instance : (form : ProofForm) (p : Parts) (shared : List F) (instance : Instance) →
    claim_of_batch form p shared (instance ∷ []) ≡ claim_in form p (shared ++ instance.own) instance.outputs
one_instance form p shared instance =
    let k : exponent_at p 0 + 0 ≡ exponent_at p 0 = omega arith in
    λ i. record {
      form = form;
      k = k i;
      layers = one_copy_each (layers_of p) i;
      input_table = (claim_in form p (shared ++ instance.own) instance.outputs).input_table;
      claimed_table = (claim_in form p (shared ++ instance.own) instance.outputs).claimed_table;
    }
