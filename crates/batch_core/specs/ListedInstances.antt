-- Instances of a circuit whose values are listed one instance after another
use Rattle.std.specs.Prelude.{◌≡◌, ℕ, ◌-◌, ◌*◌, ◌≤◌, List, length, map, take, drop}
use Rattle.std.specs.Prelude.{slice_index_or}
use Rattle.std.specs.List.{range_with_len}
use Rattle.field_ext.specs.Field.{F, K, k_ops, zero_k, embed_k, mul_k}
use Rattle.field_ext.specs.Sums.{sum_below}
use Rattle.circuit_core.specs.Parts.{Parts, zero_f}
use Rattle.proof_wire.specs.declared.form.ProofForm.{ProofForm}
use Rattle.gkr_layers.specs.Acceptance.{CircuitClaim}
use Rattle.batch_core.specs.declared.instances.Instances.{Instances}
use Rattle.batch_core.specs.BatchClaim.{Instance, claim_of_batch}

-- block m of a list that is cut into blocks of one size
abbrev pub block : {A : Type 0} → ℕ → List A → ℕ → List A
block size values m = take size (drop (m * size) values)

-- how many inputs of a circuit aren't shared
abbrev pub own_count : Parts → Instances → ℕ
own_count p listed = p.inputs - length listed.shared.now

abbrev pub listed_instance : Parts → Instances → ℕ → Instance
listed_instance p listed m = record {
  own = block (own_count p listed) listed.own.now m;
  outputs = block p.outputs listed.outputs.now m;
}

-- the instances that are listed
abbrev pub instances_of : Parts → Instances → List Instance
instances_of p listed = map (listed_instance p listed) (range_with_len 0 listed.count)

-- the claim on them
abbrev pub listed_claim : ProofForm → Parts → Instances → CircuitClaim
listed_claim form p listed = claim_of_batch form p listed.shared.now (instances_of p listed)

-- The lists have as many values as instances of a circuit need, of which there is one at least.
pub record AreInstancesOf (p : Parts) (listed : Instances) : Type 0 where
  pub some : 1 ≤ listed.count
  pub shared : length listed.shared.now ≤ p.inputs
  pub own : length listed.own.now ≡ listed.count * own_count p listed
  pub outputs : length listed.outputs.now ≡ listed.count * p.outputs

-- the sum of values, each by its weight
abbrev pub weighted_sum : List K → List F → K
weighted_sum weights values =
    sum_below k_ops (length values)
    (λ i. mul_k (embed_k (slice_index_or values i zero_f)) (slice_index_or weights i zero_k))

-- the sum over so many blocks of values, each block by a weight of its own
abbrev pub sum_of_blocks : ℕ → List K → List K → List F → K
sum_of_blocks count outer weights values =
    sum_below k_ops count (λ m. mul_k (slice_index_or outer m zero_k)
    (weighted_sum weights (block (length weights) values m)))
