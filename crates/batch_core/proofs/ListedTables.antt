-- The extensions of a batch's tables, from the values that its instances list
use Rattle.std.proofs.Common.{◌≡◌, ℕ, ◌^◌, ◌<◌, List, ◌++◌, map, length, take, drop, get_or, sym, ◌∙◌, ap, ap₂, arith, length-append, length-drop}
use Rattle.field_ext.specs.Field.{F, K, k_ops, zero_k, add_k, mul_k, embed_k}
use Rattle.field_ext.specs.Sums.{sum_below}
use Rattle.field_ext.specs.Multilinear.{extension_at}
use Rattle.field_ext.proofs.api.KLaws.{k_laws}
use Rattle.mle_table.proofs.api.SumLaws.{sum_below-same}
use Rattle.circuit_core.specs.Parts.{height, width_of, leaf_value, padded_values, input_table}
use Rattle.circuit_core.specs.Sound.{SoundCircuit, exponent_at}
use Rattle.circuit_core.proofs.api.Sizes.{size_of}
use Rattle.proof_wire.specs.declared.form.ProofForm.{ProofForm}
use Rattle.gkr_layers.proofs.api.Circuits.{input_width, length-table}
use Rattle.gkr_layers.proofs.api.Shapes.{outputs_room}
use Rattle.batch_core.specs.declared.instances.Instances.{Instances}
use Rattle.batch_core.specs.Copies.{copies_table, copy_exponent, instance_of}
use Rattle.batch_core.specs.CopiedValues.{instance_weight}
use Rattle.batch_core.specs.BatchClaim.{Instance, instance_at}
use Rattle.batch_core.specs.ListedInstances.{block, own_count, listed_instance, instances_of, listed_claim, AreInstancesOf, weighted_sum, sum_of_blocks}
use Rattle.batch_core.proofs.api.Joined.{joined-same}
use Rattle.batch_core.proofs.api.Extensions.{ext-instances}
use Rattle.batch_core.proofs.BatchTables.{input_table_size, stands_for_one}
use Rattle.batch_core.proofs.Inputs.{shared_once}
use Rattle.batch_core.proofs.ListedValues.{listed_count, instance_listed}
use Rattle.batch_core.proofs.WeightedSums.{length-block, block-most, weights-append}

module _ (c : SoundCircuit) (form : ProofForm) (listed : Instances) (are : AreInstancesOf c.parts listed) where
  abbrev n : ℕ
  n = copy_exponent listed.count

  -- what copy k has, for what an instance has
  abbrev of_copies : ℕ → (Instance → List K) → List K
  of_copies count table = copies_table (copy_exponent count) (λ k. table (instance_at (instances_of c.parts listed) (instance_of count k)))

  copies_are : (table : Instance → List K) → of_copies (length (instances_of c.parts listed)) table ≡ copies_table n (λ k. table (listed_instance c.parts listed (instance_of listed.count k)))
  copies_are table =
      ap (λ (count : ℕ). of_copies count table) (listed_count c.parts listed)
      ∙ joined-same (2 ^ copy_exponent listed.count) _ _ (λ k b.
      let m : ℕ = instance_of listed.count k in
      ap table (instance_listed c.parts listed m (stands_for_one listed.count k are.some)))

  -- the sum over the instances of their tables' extensions
  module _ (table : Instance → List K) (j : ℕ) (z y weights : List K) (sz : length z ≡ j) (sy : length y ≡ copy_exponent listed.count)
      (sizes : (m : ℕ) → length (table (listed_instance c.parts listed m)) ≡ 2 ^ j)
      (by : (m : ℕ) → m < listed.count → get_or weights m zero_k ≡ instance_weight k_ops y listed.count m) where
    at_instances : extension_at k_ops k_ops (λ x. x) (of_copies (length (instances_of c.parts listed)) table) (z ++ y)
        ≡ sum_below k_ops listed.count (λ m. mul_k (instance_weight k_ops y listed.count m) (extension_at k_ops k_ops (λ x. x) (table (listed_instance c.parts listed m)) z))
    at_instances =
        ap (λ (t : List K). extension_at k_ops k_ops (λ x. x) t (z ++ y)) (copies_are table)
        ∙ ext-instances k_ops k_laws j (copy_exponent listed.count) listed.count z y (λ m. table (listed_instance c.parts listed m)) are.some sz sy sizes

  -- the claimed table
  pub claimed_extension : (z y weights places : List K) → length z ≡ exponent_at c.parts 0 → length y ≡ copy_exponent listed.count → length places ≡ c.parts.outputs →
      ((m : ℕ) → m < listed.count → get_or weights m zero_k ≡ instance_weight k_ops y listed.count m) →
      ((outputs : List F) → length outputs ≡ length places → weighted_sum places outputs ≡ extension_at k_ops k_ops (λ x. x) (map embed_k (padded_values (2 ^ length z) outputs)) z) →
      sum_of_blocks listed.count weights places listed.outputs.now ≡ extension_at k_ops k_ops (λ x. x) (listed_claim form c.parts listed).claimed_table (z ++ y)
  claimed_extension z y weights places sz sy sp by at =
      let table : Instance → List K = λ i. map embed_k (padded_values (width_of c.parts 0) i.outputs) in
      let width : 2 ^ length z ≡ width_of c.parts 0 = ap (λ (i : ℕ). 2 ^ i) sz ∙ sym (size_of c 0 (omega arith)).0 in
      let sizes : (m : ℕ) → length (table (listed_instance c.parts listed m)) ≡ 2 ^ exponent_at c.parts 0 = λ m.
      let few : length (block c.parts.outputs listed.outputs.now m) < width_of c.parts 0 = omega (arith, block-most m c.parts.outputs listed.outputs.now, outputs_room c) in
      length-table (width_of c.parts 0) (block c.parts.outputs listed.outputs.now m) few ∙ (size_of c 0 (omega arith)).0 in
      sum_below-same k_ops k_laws listed.count _ _ (λ m u.
      let here : List F = block c.parts.outputs listed.outputs.now m in
      let size : length (block c.parts.outputs listed.outputs.now m) ≡ length places = length-block m listed.count c.parts.outputs listed.outputs.now u are.outputs ∙ sym sp in
      ap₂ mul_k (by m u)
      (ap (λ (s : ℕ). weighted_sum places (block s listed.outputs.now m)) sp
      ∙ at here size
      ∙ ap (λ (w : ℕ). extension_at k_ops k_ops (λ x. x) (map embed_k (padded_values w here)) z) width))
      ∙ sym (at_instances table (exponent_at c.parts 0) z y weights sz sy sizes by)

  -- the input table
  pub input_extension : (z y weights places : List K) (constants once : K) → length z ≡ exponent_at c.parts (height c.parts) → length y ≡ copy_exponent listed.count → length places ≡ c.parts.inputs →
      ((m : ℕ) → m < listed.count → get_or weights m zero_k ≡ instance_weight k_ops y listed.count m) →
      ((inputs : List F) → length inputs ≡ length places →
      add_k constants (weighted_sum places inputs) ≡ extension_at k_ops k_ops (λ x. x) (map embed_k (padded_values (2 ^ length z) (map (leaf_value inputs) c.parts.leaves))) z) →
      once ≡ add_k constants (weighted_sum (take (length listed.shared.now) places) listed.shared.now) →
      add_k once (sum_of_blocks listed.count weights (drop (length listed.shared.now) places) listed.own.now) ≡ extension_at k_ops k_ops (λ x. x) (listed_claim form c.parts listed).input_table (z ++ y)
  input_extension z y weights places constants once sz sy sp by at e =
      let shared : List F = listed.shared.now in
      let size : ℕ = own_count c.parts listed in
      let front : List K = take (length listed.shared.now) places in
      let rest : List K = drop (length listed.shared.now) places in
      let table : Instance → List K = λ i. input_table c.parts (listed.shared.now ++ i.own) in
      let behind : length (drop (length listed.shared.now) places) ≡ own_count c.parts listed = omega (arith, length-drop (length listed.shared.now) places, sp) in
      let width : 2 ^ length z ≡ c.parts.input_width = ap (λ (i : ℕ). 2 ^ i) sz ∙ sym (size_of c (height c.parts) (omega arith)).0 ∙ input_width c.parts in
      let shares : ℕ → K = λ m. weighted_sum rest (block (length rest) listed.own.now m) in
      ap₂ add_k e (sum_below-same k_ops k_laws listed.count _ _ (λ m u. ap (λ (w : K). mul_k w (shares m)) (by m u)))
      ∙ sym (shared_once k_ops k_laws z listed.count y (add_k constants (weighted_sum front shared)) shares are.some)
      ∙ sum_below-same k_ops k_laws listed.count _ _ (λ m u.
      let own : List F = block (own_count c.parts listed) listed.own.now m in
      let all : length (listed.shared.now ++ block (own_count c.parts listed) listed.own.now m) ≡ length places =
      omega (arith, length-append listed.shared.now (block (own_count c.parts listed) listed.own.now m), length-block m listed.count (own_count c.parts listed) listed.own.now u are.own, are.shared, sp) in
      ap (mul_k (instance_weight k_ops y listed.count m))
      (ap (λ (s : ℕ). add_k (add_k constants (weighted_sum front shared)) (weighted_sum rest (block s listed.own.now m))) behind
      ∙ k_laws.add_assoc constants (weighted_sum front shared) (weighted_sum rest own)
      ∙ ap (add_k constants) (sym (weights-append places shared own))
      ∙ at (shared ++ own) all
      ∙ ap (λ (w : ℕ). extension_at k_ops k_ops (λ x. x) (map embed_k (padded_values w (map (leaf_value (shared ++ own)) c.parts.leaves))) z) width))
      ∙ sym (at_instances table (exponent_at c.parts (height c.parts)) z y weights sz sy (λ m. input_table_size c (listed.shared.now ++ (listed_instance c.parts listed m).own)) by)
