-- With buffers for the layers that are left, there are buffers for all
use Rattle.std.proofs.Common.{List, ◌++◌}
use Rattle.gkr_layers.specs.Layers.{layers_below, lower_exponents}
use Rattle.live_session.specs.Verifying.{lower}
use Rattle.proof_wire.specs.declared.form.ProofForm.TheVariants.{Line}
use Rattle.proof_wire.specs.declared.messages.LayerMessages.{LayerMessages}
use Rattle.proof_wire.specs.Lists.{HaveShape}
use Rattle.live_session.proofs.layout.message_buffers.Given as goal

abbrev pub invariant-loop-layer : goal.invariant-loop-layer
invariant-loop-layer l =
    (ms : List LayerMessages) → HaveShape Line (lower_exponents (layers_below l.circuit.parts l.layer)) ms → HaveShape Line (lower l.circuit.parts) (l.layers.items ++ ms)
