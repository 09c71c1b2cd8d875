use Rattle.std.proofs.Common.{◌≡◌, ℕ, ◌^◌, List, length, map, take, sym, ◌∙◌, ap, arith}
use Rattle.field_ext.specs.Field.{K, k_ops, add_k, embed_k}
use Rattle.field_ext.specs.Multilinear.{extension_at}
use Rattle.circuit_core.specs.declared.gate.Leaf.{Leaf}
use Rattle.circuit_core.specs.Parts.{height, width_of, leaf_value, padded_values}
use Rattle.circuit_core.specs.Sound.{exponent_at}
use Rattle.circuit_core.proofs.api.Sizes.{size_of}
use Rattle.batch_core.specs.Copies.{copy_exponent}
use Rattle.batch_core.specs.ListedInstances.{listed_claim, weighted_sum, sum_of_blocks}
use Rattle.batch_core.proofs.api.CopyExponent.{enough}
use Rattle.batch_core.proofs.ListedTables.{input_extension}
use Rattle.batch_core.proofs.instances.input_extension.Goals as goal

pub fill_weights-requires-clause-copies : goal.fill_weights-requires-clause-copies
fill_weights-requires-clause-copies c =
    let k : c.coordinates.result ≡ exponent_at c.args.circuit.now.parts (height c.args.circuit.now.parts) = c.coordinates.ensures.value ∙ ap (exponent_at c.args.circuit.now.parts) c.height.ensures in
    let size : length c.split_at.result.1.now ≡ copy_exponent c.args.instances.now.count = omega (arith, c.split_at.ensures.back_len, k, c.requires.point) in
    omega (arith, ap (λ (n : ℕ). 2 ^ n) size, enough c.args.instances.now.count)

pub fill_input_weights-constants-requires-clause-fits : goal.fill_input_weights-constants-requires-clause-fits
fill_input_weights-constants-requires-clause-fits c =
    let p = c.args.circuit.now.parts in
    let k : c.coordinates.result ≡ exponent_at c.args.circuit.now.parts (height c.args.circuit.now.parts) = c.coordinates.ensures.value ∙ ap (exponent_at c.args.circuit.now.parts) c.height.ensures in
    let position : length c.split_at.result.0.now ≡ exponent_at c.args.circuit.now.parts (height c.args.circuit.now.parts) = c.split_at.ensures.front_len ∙ k in
    let width : 2 ^ length c.split_at.result.0.now ≡ width_of c.args.circuit.now.parts (height c.args.circuit.now.parts) =
    ap (λ (n : ℕ). 2 ^ n) position ∙ sym (size_of c.args.circuit.now (height p) (omega arith)).0 in
    omega (arith, width, c.leaves.ensures.capacity)

pub sum_of_blocks-requires-clause-outer : goal.sum_of_blocks-requires-clause-outer
sum_of_blocks-requires-clause-outer c = omega (arith, enough c.args.instances.now.count, c.requires.copy_weights, c.fill_weights.auto.table)

pub returns : goal.returns
returns c form =
    let listed = c.args.instances.now in
    let places = c.fill_input_weights-constants.new.weights in
    let constants = c.fill_input_weights-constants.result in
    let k : c.coordinates.result ≡ exponent_at c.args.circuit.now.parts (height c.args.circuit.now.parts) = c.coordinates.ensures.value ∙ ap (exponent_at c.args.circuit.now.parts) c.height.ensures in
    let position : length c.split_at.result.0.now ≡ exponent_at c.args.circuit.now.parts (height c.args.circuit.now.parts) = c.split_at.ensures.front_len ∙ k in
    let copy : length c.split_at.result.1.now ≡ copy_exponent c.args.instances.now.count = omega (arith, c.split_at.ensures.back_len, k, c.requires.point) in
    let size : length c.fill_input_weights-constants.new.weights ≡ c.args.circuit.now.parts.inputs = omega (arith, c.fill_input_weights-constants.auto.weights, c.split_at_mut-value_weights.ensures.front_len, c.inputs.ensures) in
    let once : c.add-once.result ≡ add_k constants (weighted_sum (take (length listed.shared.now) places) listed.shared.now) =
    c.add-once.ensures ∙ ap (add_k constants) (c.weighted_sum.ensures ∙ ap (λ (weights : List K). weighted_sum weights listed.shared.now) c.split_at-2.ensures.front) in
    c.add.ensures
    ∙ ap (add_k c.add-once.result) (c.sum_of_blocks.ensures ∙ ap (λ (weights : List K). sum_of_blocks listed.count c.fill_weights.new.table weights listed.own.now) c.split_at-2.ensures.back)
    ∙ input_extension c.args.circuit.now form listed c.requires.instances c.split_at.result.0.now c.split_at.result.1.now c.fill_weights.new.table places constants c.add-once.result
    position copy size c.fill_weights.ensures
    (λ inputs s. c.fill_input_weights-constants.ensures inputs (omega (arith, s, c.fill_input_weights-constants.auto.weights)) ∙ ap (λ (leaves : List Leaf). extension_at k_ops k_ops (λ x. x) (map embed_k (padded_values (2 ^ length c.split_at.result.0.now) (map (leaf_value inputs) leaves))) c.split_at.result.0.now) c.leaves.ensures.value)
    once
    ∙ ap (λ (point : List K). extension_at k_ops k_ops (λ x. x) (listed_claim form c.args.circuit.now.parts listed).input_table point) (sym c.split_at.ensures.by_index.0)
