-- What the callers promise.
use Rattle.std.specs.Prelude.{◌≡◌, ℕ, List, drop, length, take}
use Rattle.field_ext.specs.Field.{F}
use Rattle.circuit_core.specs.Parts.{Parts, layer_values}
use Rattle.circuit_core.specs.Sound.{exponents}
use Rattle.gkr_layers.specs.Acceptance.{claim_of, verdict_of}
use Rattle.gkr_layers.specs.declared.verdict.Verdict.{Verdict}
use Rattle.gkr_layers.specs.declared.verdict.Verdict.TheVariants.{Accepted}
use Rattle.proof_wire.specs.Lists.{HaveShape, all_messages}
use Rattle.proof_wire.specs.Spelling.{spelling}
use Rattle.proof_wire.specs.declared.form.ProofForm.TheVariants.{Line}
use Rattle.proof_wire.specs.declared.messages.Messages.{Messages}
use Rattle.transcript_fs.specs.Source.{all_draws}
use Rattle.transcript_fs.specs.Transcript.{Stated, start_state, transcript}

-- The numbers of inputs and outputs are the circuit's.
pub record AreCounted (parts : Parts) (inputs outputs : List F) : Type 0 where
  pub as_many_inputs : length inputs ≡ parts.inputs
  pub as_many_outputs : length outputs ≡ parts.outputs

-- These are the circuit's outputs on the inputs: its output layer from position 1 on.
abbrev pub AreOutputs : Parts → List F → List F → Type 0
AreOutputs parts inputs outputs =
    outputs ≡ take (length outputs) (drop 1 (layer_values parts inputs 0))

-- The verdict on messages about a statement, with the challenges of its own transcript.
abbrev pub verdict_on : Parts → Stated → Messages → Verdict
verdict_on parts stated messages =
    let claim = claim_of parts stated.inputs stated.outputs in
    let state = start_state stated.text stated.inputs stated.outputs in
    let qs = all_messages messages.layers in
    verdict_of claim qs (all_draws transcript state claim.k qs)

-- The bytes spell messages of the circuit's shape that meet every equation of acceptance, with the
-- challenges of the statement's own transcript.
pub record SpellAccepted (parts : Parts) (stated : Stated) (bytes : List ℕ) : Type 0 where
  pub messages : Messages
  pub shape : HaveShape Line (drop 1 (exponents parts)) messages.layers
  pub spelled : bytes ≡ spelling Line messages
  pub accepted : verdict_on parts stated messages ≡ Accepted
