use Rattle.std.proofs.Common.{ℕ, ◌^◌, map, arith, ◌∙◌, ap, sym}
use Rattle.field_ext.specs.Field.{k_ops, embed_k}
use Rattle.circuit_core.specs.Parts.{height, leaf_value, padded_values}
use Rattle.circuit_core.specs.Sound.{exponent_at}
use Rattle.circuit_core.proofs.api.Sizes.{size_of}
use Rattle.gkr_layers.specs.Places.{value_over}
use Rattle.gkr_layers.specs.ClaimPlace.{place_of}
use Rattle.gkr_layers.proofs.api.Circuits.{input_width}
use Rattle.gkr_verify.proofs.InputSteps.{input_holds, input_fails}
use Rattle.gkr_verify.proofs.layers.check_inputs.Goals as goal

pub leaves_there-want-requires-clause-fits : goal.leaves_there-want-requires-clause-fits
leaves_there-want-requires-clause-fits c =
    let circuit = c.args.circuit.now in
    let size = (size_of circuit (height circuit.parts) (omega arith)).0 in
    let width = ap (λ (n : ℕ). 2 ^ n) (c.coordinates-k.ensures.value ∙ ap (λ (i : ℕ). exponent_at circuit.parts i) c.height.ensures) in
    omega (arith, c.leaves.ensures.capacity, size, width)

pub returns-then-equals : goal.returns-then-equals
returns-then-equals c =
    let circuit = c.args.circuit.now in
    let size = (size_of circuit (height circuit.parts) (omega arith)).0 in
    let width = ap (λ (n : ℕ). 2 ^ n) (c.coordinates-k.ensures.value ∙ ap (λ (i : ℕ). exponent_at circuit.parts i) c.height.ensures) ∙ sym size ∙ input_width circuit.parts in
    input_holds c.args.claim c.leaves_there-want.result _
    (c.leaves_there-want.ensures ∙ (λ i. value_over k_ops (map embed_k (padded_values (width i) (map (leaf_value c.args.inputs.now) (c.leaves.ensures.value i)))) (place_of c.args.place.now)))
    (sym c.equals.ensures.computed ∙ c.if-equals.true)

pub returns-else-equals : goal.returns-else-equals
returns-else-equals c =
    let circuit = c.args.circuit.now in
    let size = (size_of circuit (height circuit.parts) (omega arith)).0 in
    let width = ap (λ (n : ℕ). 2 ^ n) (c.coordinates-k.ensures.value ∙ ap (λ (i : ℕ). exponent_at circuit.parts i) c.height.ensures) ∙ sym size ∙ input_width circuit.parts in
    input_fails c.args.claim c.leaves_there-want.result _
    (c.leaves_there-want.ensures ∙ (λ i. value_over k_ops (map embed_k (padded_values (width i) (map (leaf_value c.args.inputs.now) (c.leaves.ensures.value i)))) (place_of c.args.place.now)))
    (sym c.equals.ensures.computed ∙ c.if-equals.false)
