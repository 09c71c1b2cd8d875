-- One layer more
use Rattle.std.proofs.Common.{◌<◌, ◌≤◌, ◌++◌, ◌∷◌, [], List, sym, ◌∙◌, ap, subst, arith, append-nil, append_assoc}
use Rattle.circuit_core.specs.Parts.{height}
use Rattle.gkr_layers.specs.Layers.{GateLayer, layers_below, lower_exponents}
use Rattle.gkr_layers.proofs.api.Circuits.{below_more, below_none}
use Rattle.live_session.specs.Verifying.{lower}
use Rattle.proof_wire.specs.declared.form.ProofForm.TheVariants.{Line}
use Rattle.proof_wire.specs.declared.messages.LayerMessages.{LayerMessages}
use Rattle.proof_wire.specs.Lists.{HasShape, HaveShape}
use Rattle.live_session.proofs.layout.message_buffers.Goals as goal

pub loop-layer-preserved : goal.loop-layer-preserved
loop-layer-preserved c =
    let p = c.args.circuit.now.parts in
    let i = c.loop-layer.layer in
    let m : LayerMessages = c.in_ok-layer_buffers.field-0 in
    let u : c.loop-layer.layer < height c.args.circuit.now.parts = omega (arith, c.loop-layer-test.true, c.height-layer-end.ensures) in
    let before = c.loop-layer.layers.items in
    λ ms h.
    subst (HaveShape Line (lower p)) (sym (append_assoc before (m ∷ []) ms) ∙ ap (λ (xs : List LayerMessages). xs ++ ms) (sym c.in_ok-push.ensures.items))
    (c.loop-layer.invariant (m ∷ ms) (subst (λ (layers : List GateLayer). HaveShape Line (lower_exponents layers) (m ∷ ms)) (sym (below_more p i u)) (subst (λ k. HasShape Line k m) c.coordinates.ensures.value c.in_ok-layer_buffers.ensures, h)))

pub returns : goal.returns
returns c =
    let p = c.args.circuit.now.parts in
    let u : height c.args.circuit.now.parts ≤ c.loop-layer.layer = omega (arith, c.loop-layer-test.false, c.height-layer-end.ensures) in
    let nothing : HaveShape Line (lower_exponents (layers_below c.args.circuit.now.parts c.loop-layer.layer)) [] = subst (λ (layers : List GateLayer). HaveShape Line (lower_exponents layers) []) (sym (below_none p c.loop-layer.layer u)) tt in
    subst (HaveShape Line (lower p)) (append-nil c.loop-layer.layers.items) (c.loop-layer.invariant [] nothing)
