-- What is claimed of a circuit on the inputs of many instances at once
use Rattle.std.specs.Prelude.{◌≡◌, ℕ, ◌+◌, ◌<◌, List, [], ◌++◌, length, take, drop, slice_index_or}
use Rattle.field_ext.specs.Field.{F}
use Rattle.circuit_core.specs.Parts.{Parts, layer_values}
use Rattle.circuit_core.specs.Sound.{exponent_at}
use Rattle.proof_wire.specs.declared.form.ProofForm.{ProofForm}
use Rattle.gkr_layers.specs.Layers.{layers_of}
use Rattle.gkr_layers.specs.Acceptance.{CircuitClaim, claim_in}
use Rattle.batch_core.specs.Copies.{copies_table, copied_layers, copy_exponent, instance_of}

-- an instance: its own inputs, which come after the shared ones, and the outputs that are claimed
-- for it
pub record Instance : Type 0 where
  pub own : List F
  pub outputs : List F

-- instance m of a list
abbrev pub instance_at : List Instance → ℕ → Instance
instance_at instances m = slice_index_or instances m (record { own = []; outputs = [] })

-- the claim on the circuit in which instance m alone is claimed
abbrev pub instance_claim : ProofForm → Parts → List F → List Instance → ℕ → CircuitClaim
instance_claim form p shared instances m =
    let instance = instance_at instances m in
    claim_in form p (shared ++ instance.own) instance.outputs

-- that copy c claims
abbrev pub copy_claim : ProofForm → Parts → List F → List Instance → ℕ → CircuitClaim
copy_claim form p shared instances c =
    instance_claim form p shared instances (instance_of (length instances) c)

-- That a circuit on the inputs of each instance, of which there is one at least, has the outputs
-- of that instance: the claim on the circuit's copies. There are as many copies as the least power
-- of two that is no less than the number of instances.
abbrev pub claim_of_batch : ProofForm → Parts → List F → List Instance → CircuitClaim
claim_of_batch form p shared instances =
    let n = copy_exponent (length instances) in
    record {
      form = form;
      k = exponent_at p 0 + n;
      layers = copied_layers n (layers_of p);
      input_table = copies_table n (λ c. (copy_claim form p shared instances c).input_table);
      claimed_table = copies_table n (λ c. (copy_claim form p shared instances c).claimed_table);
    }

-- each instance has as many outputs as the circuit
abbrev pub HaveOutputs : Parts → List Instance → Type 0
HaveOutputs p instances = (m : ℕ) → m < length instances →
    length (instance_at instances m).outputs ≡ p.outputs

-- the outputs of each instance are those that the circuit has on its inputs
abbrev pub AreTrue : Parts → List F → List Instance → Type 0
AreTrue p shared instances = (m : ℕ) → m < length instances →
    let instance = instance_at instances m in
    instance.outputs ≡ take (length instance.outputs)
    (drop 1 (layer_values p (shared ++ instance.own) 0))
