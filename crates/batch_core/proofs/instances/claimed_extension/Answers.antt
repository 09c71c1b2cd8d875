use Rattle.std.proofs.Common.{◌≡◌, ℕ, ◌^◌, List, length, sym, ◌∙◌, ap, arith}
use Rattle.field_ext.specs.Field.{K, k_ops}
use Rattle.field_ext.specs.Multilinear.{extension_at}
use Rattle.circuit_core.specs.Parts.{width_of}
use Rattle.circuit_core.specs.Sound.{exponent_at}
use Rattle.circuit_core.proofs.api.Sizes.{size_of}
use Rattle.gkr_layers.proofs.api.Shapes.{outputs_room}
use Rattle.batch_core.specs.Copies.{copy_exponent}
use Rattle.batch_core.specs.ListedInstances.{listed_claim}
use Rattle.batch_core.proofs.api.CopyExponent.{enough}
use Rattle.batch_core.proofs.ListedTables.{claimed_extension}
use Rattle.batch_core.proofs.instances.claimed_extension.Goals as goal

pub fill_weights-requires-clause-copies : goal.fill_weights-requires-clause-copies
fill_weights-requires-clause-copies c =
    let size : length c.split_at.result.1.now ≡ copy_exponent c.args.instances.now.count = omega (arith, c.split_at.ensures.back_len, c.coordinates.ensures.value, c.requires.point) in
    omega (arith, ap (λ (n : ℕ). 2 ^ n) size, enough c.args.instances.now.count)

pub fill_output_weights-requires-clause-fits : goal.fill_output_weights-requires-clause-fits
fill_output_weights-requires-clause-fits c =
    let position : length c.split_at.result.0.now ≡ exponent_at c.args.circuit.now.parts 0 = c.split_at.ensures.front_len ∙ c.coordinates.ensures.value in
    let width : 2 ^ length c.split_at.result.0.now ≡ width_of c.args.circuit.now.parts 0 = ap (λ (n : ℕ). 2 ^ n) position ∙ sym (size_of c.args.circuit.now 0 (omega arith)).0 in
    omega (arith, width, outputs_room c.args.circuit.now, c.split_at_mut-value_weights.ensures.front_len, c.outputs.ensures.value)

pub sum_of_blocks-requires-clause-outer : goal.sum_of_blocks-requires-clause-outer
sum_of_blocks-requires-clause-outer c = omega (arith, enough c.args.instances.now.count, c.requires.copy_weights, c.fill_weights.auto.table)

pub returns : goal.returns
returns c form =
    let position : length c.split_at.result.0.now ≡ exponent_at c.args.circuit.now.parts 0 = c.split_at.ensures.front_len ∙ c.coordinates.ensures.value in
    let copy : length c.split_at.result.1.now ≡ copy_exponent c.args.instances.now.count = omega (arith, c.split_at.ensures.back_len, c.coordinates.ensures.value, c.requires.point) in
    let size : length c.fill_output_weights.new.weights ≡ c.args.circuit.now.parts.outputs = omega (arith, c.fill_output_weights.auto.weights, c.split_at_mut-value_weights.ensures.front_len, c.outputs.ensures.value) in
    c.sum_of_blocks.ensures
    ∙ claimed_extension c.args.circuit.now form c.args.instances.now c.requires.instances c.split_at.result.0.now c.split_at.result.1.now c.fill_weights.new.table c.fill_output_weights.new.weights
    position copy size c.fill_weights.ensures (λ outputs s. c.fill_output_weights.ensures outputs (omega (arith, s, c.fill_output_weights.auto.weights)))
    ∙ ap (λ (point : List K). extension_at k_ops k_ops (λ x. x) (listed_claim form c.args.circuit.now.parts c.args.instances.now).claimed_table point) (sym c.split_at.ensures.by_index.0)
