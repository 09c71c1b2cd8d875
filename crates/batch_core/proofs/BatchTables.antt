-- The tables of a batch's claim: their sizes, and that the claimed one is the true one exactly where each instance is true
use Rattle.std.proofs.Common.{◌≡◌, ◌↔◌, ℕ, ◌+◌, ◌-◌, ◌^◌, ◌<◌, ◌≤◌, List, ◌++◌, map, length, take, drop, replicate, sym, ◌∙◌, ap, arith, subst}
use Rattle.std.proofs.Math.Nat.{min-eq_left, min-le_right}
use Rattle.std.proofs.lemmas.List.{length-map}
use Rattle.field_ext.specs.Field.{F, K, k_ops, zero_k, embed_k}
use Rattle.circuit_core.specs.Parts.{Parts, height, width_of, leaf_value, padded_values, layer_values, input_table, zero_f}
use Rattle.circuit_core.specs.Sound.{SoundCircuit, exponent_at}
use Rattle.circuit_core.proofs.api.Sizes.{size_of}
use Rattle.wiring_poly.proofs.api.Identity.{take-front}
use Rattle.proof_wire.specs.declared.form.ProofForm.{ProofForm}
use Rattle.gkr_layers.specs.Layers.{layers_of, FitTogether, values_over}
use Rattle.gkr_layers.specs.Acceptance.{CircuitClaim, claim_in, true_table}
use Rattle.gkr_layers.proofs.api.Circuits.{layers_fit, input_size, input_exponent, over-embed, input_width, length-table}
use Rattle.gkr_layers.proofs.api.Shapes.{outputs_room, leaves_fit, parts_of}
use Rattle.gkr_layers.proofs.api.Outputs.{outputs_padded}
use Rattle.batch_core.specs.Copies.{copies_table, copied_layers, copy_exponent, instance_of}
use Rattle.batch_core.specs.BatchClaim.{Instance, instance_at, instance_claim, copy_claim, claim_of_batch, HaveOutputs, AreTrue}
use Rattle.batch_core.proofs.api.Joined.{joined-same, joined-each}
use Rattle.batch_core.proofs.api.CopiedLayers.{length-copies_table, copies_fit, length-over, over_copies}
use Rattle.batch_core.proofs.api.CopyExponent.{enough}

-- the input layer's table has one value for each of its positions
pub input_table_size : (c : SoundCircuit) (inputs : List F) → length (input_table c.parts inputs) ≡ 2 ^ exponent_at c.parts (height c.parts)
input_table_size c inputs =
    let values = map (leaf_value inputs) c.parts.leaves in
    let fit : length (map (leaf_value inputs) c.parts.leaves) < c.parts.input_width = omega (arith, length-map c.parts.leaves (leaf_value inputs), leaves_fit c, input_width c.parts) in
    length-table c.parts.input_width values fit ∙ sym (input_width c.parts) ∙ (size_of c (height c.parts) (omega arith)).0

-- and so has the claimed table of an instance with as many outputs as the circuit
claimed_table_size : (c : SoundCircuit) (form : ProofForm) (inputs outputs : List F) → length outputs ≡ c.parts.outputs → length ((claim_in form c.parts inputs outputs).claimed_table) ≡ 2 ^ exponent_at c.parts 0
claimed_table_size c form inputs outputs count =
    let few : length outputs < width_of c.parts 0 = omega (arith, count, outputs_room c) in
    length-table (width_of c.parts 0) outputs few ∙ (size_of c 0 (omega arith)).0

-- the true table holds the values that the circuit has on these inputs
true_is : (p : Parts) (form : ProofForm) (inputs outputs : List F) → map embed_k (layer_values p inputs 0) ≡ true_table (claim_in form p inputs outputs)
true_is p form inputs outputs = over-embed p 0 p.layers (padded_values p.input_width (map (leaf_value inputs) p.leaves))

-- a claimed table that is the true one holds the outputs that the circuit has, and the other way round
outputs_are : (p : Parts) (form : ProofForm) (inputs outputs : List F) → (claim_in form p inputs outputs).claimed_table ≡ true_table (claim_in form p inputs outputs) →
    outputs ≡ take (length outputs) (drop 1 (layer_values p inputs 0))
outputs_are p form inputs outputs e =
    let table : List F = padded_values (width_of p 0) outputs in
    let same : padded_values (width_of p 0) outputs ≡ layer_values p inputs 0 =
    sym (parts_of table) ∙ ap (λ (t : List K). map (λ (x : K). x.re) t) (e ∙ sym (true_is p form inputs outputs)) ∙ parts_of (layer_values p inputs 0) in
    sym (take-front outputs (replicate (width_of p 0 - (1 + length outputs)) zero_f)) ∙ ap (λ (t : List F). take (length outputs) (drop 1 t)) same

table_is : (c : SoundCircuit) (form : ProofForm) (inputs outputs : List F) → length outputs ≡ c.parts.outputs → outputs ≡ take (length outputs) (drop 1 (layer_values c.parts inputs 0)) →
    (claim_in form c.parts inputs outputs).claimed_table ≡ true_table (claim_in form c.parts inputs outputs)
table_is c form inputs outputs count e = ap (map embed_k) (sym (outputs_padded c inputs outputs count e)) ∙ true_is c.parts form inputs outputs

-- the values of a circuit's copies
pub circuit_values : (c : SoundCircuit) (n : ℕ) (inputs : ℕ → List F) →
    values_over k_ops (copied_layers n (layers_of c.parts)) (copies_table n (λ k. input_table c.parts (inputs k))) ≡ copies_table n (λ k. values_over k_ops (layers_of c.parts) (input_table c.parts (inputs k)))
circuit_values c n inputs =
    over_copies k_ops (exponent_at c.parts 0) n (layers_of c.parts) (λ k. input_table c.parts (inputs k)) (layers_fit c)
    (λ k. input_table_size c (inputs k) ∙ ap (λ (i : ℕ). 2 ^ i) (sym (input_size c.parts)))

-- a copy stands for an instance of the list
pub stands_for_one : (count k : ℕ) → 1 ≤ count → instance_of count k < count
stands_for_one count k some = omega (arith, min-le_right k (count - 1))

module _ (c : SoundCircuit) (form : ProofForm) (shared : List F) (instances : List Instance) where
  abbrev n : ℕ
  n = copy_exponent (length instances)

  abbrev claim : ℕ → CircuitClaim
  claim k = copy_claim form c.parts shared instances k

  input_sizes : (k : ℕ) → length ((claim k).input_table) ≡ 2 ^ exponent_at c.parts (height c.parts)
  input_sizes k = input_table_size c (shared ++ (instance_at instances (instance_of (length instances) k)).own)

  inputs_fit : (k : ℕ) → length ((claim k).input_table) ≡ 2 ^ input_exponent (exponent_at c.parts 0) (layers_of c.parts)
  inputs_fit k = input_sizes k ∙ ap (λ (i : ℕ). 2 ^ i) (sym (input_size c.parts))

  pub batch_layers : FitTogether (exponent_at c.parts 0 + n) (copied_layers n (layers_of c.parts))
  batch_layers = copies_fit (exponent_at c.parts 0) n (layers_of c.parts) (layers_fit c)

  pub batch_input : length (copies_table n (λ k. (claim k).input_table)) ≡ 2 ^ (exponent_at c.parts (height c.parts) + n)
  batch_input = length-copies_table (exponent_at c.parts (height c.parts)) n (λ k. (claim k).input_table) input_sizes

  pub batch_values : true_table (claim_of_batch form c.parts shared instances) ≡ copies_table n (λ k. true_table (claim k))
  batch_values = over_copies k_ops (exponent_at c.parts 0) n (layers_of c.parts) (λ k. (claim k).input_table) (layers_fit c) inputs_fit

  module _ (some : 1 ≤ length instances) (counts : HaveOutputs c.parts instances) where
    claimed_sizes : (k : ℕ) → length ((claim k).claimed_table) ≡ 2 ^ exponent_at c.parts 0
    claimed_sizes k =
        let m : ℕ = instance_of (length instances) k in
        claimed_table_size c form (shared ++ (instance_at instances m).own) (instance_at instances m).outputs (counts m (stands_for_one (length instances) k some))

    pub batch_claimed : length (copies_table n (λ k. (claim k).claimed_table)) ≡ 2 ^ (exponent_at c.parts 0 + n)
    batch_claimed = length-copies_table (exponent_at c.parts 0) n (λ k. (claim k).claimed_table) claimed_sizes

    true_sizes : (k : ℕ) → length (true_table (claim k)) ≡ 2 ^ exponent_at c.parts 0
    true_sizes k = length-over k_ops (exponent_at c.parts 0) (layers_of c.parts) (claim k).input_table (layers_fit c) (inputs_fit k)

    each_true : (claim_of_batch form c.parts shared instances).claimed_table ≡ true_table (claim_of_batch form c.parts shared instances) → AreTrue c.parts shared instances
    each_true e m u =
        let i = instance_at instances m in
        let low : m ≤ length instances - 1 = omega arith in
        let own : instance_of (length instances) m ≡ m = min-eq_left low in
        let place : m < 2 ^ n = omega (arith, u, enough (length instances)) in
        let there : (claim m).claimed_table ≡ true_table (claim m) =
        joined-each (2 ^ n) (2 ^ exponent_at c.parts 0) (λ k. (claim k).claimed_table) (λ k. true_table (claim k)) zero_k claimed_sizes true_sizes (e ∙ batch_values) m place in
        outputs_are c.parts form (shared ++ i.own) i.outputs
        (subst (λ (k : ℕ). (instance_claim form c.parts shared instances k).claimed_table ≡ true_table (instance_claim form c.parts shared instances k)) own there)

    all_true : AreTrue c.parts shared instances → (claim_of_batch form c.parts shared instances).claimed_table ≡ true_table (claim_of_batch form c.parts shared instances)
    all_true are =
        joined-same (2 ^ n) (λ k. (claim k).claimed_table) (λ k. true_table (claim k)) (λ k b.
        let m : ℕ = instance_of (length instances) k in
        let u : instance_of (length instances) k < length instances = stands_for_one (length instances) k some in
        table_is c form (shared ++ (instance_at instances m).own) (instance_at instances m).outputs (counts m u) (are m u))
        ∙ sym batch_values

    pub true_exactly : ((claim_of_batch form c.parts shared instances).claimed_table ≡ true_table (claim_of_batch form c.parts shared instances)) ↔ AreTrue c.parts shared instances
    true_exactly = (each_true, all_true)
