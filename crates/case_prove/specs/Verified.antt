-- What the verifier says of a case: its verdict on the proof, or why there is none.
use Rattle.std.specs.Prelude.{◌≡◌, ◌≢◌, ◌⊎◌, ℕ, List, [], length, drop, Some, unwrap_or}
use Rattle.field_ext.specs.Field.{F}
use Rattle.circuit_core.specs.Parts.{Parts}
use Rattle.circuit_core.specs.Sound.{exponents}
use Rattle.proof_wire.specs.declared.messages.Messages.{Messages}
use Rattle.proof_wire.specs.declared.refused.BadProof.{BadProof}
use Rattle.proof_wire.specs.declared.form.ProofForm.{ProofForm}
use Rattle.proof_wire.specs.declared.form.ProofForm.TheVariants.{Line, Pair}
use Rattle.proof_wire.specs.Forms.{form_of}
use Rattle.proof_wire.specs.Spelling.{spelling}
use Rattle.proof_two.specs.declared.pairs.Pairs.{Pairs}
use Rattle.proof_two.specs.Kinds.{TroubleIn}
use Rattle.proof_two.specs.Lists.{HavePairs}
use Rattle.proof_two.specs.Spelling.{spelling_two}
use Rattle.transcript_fs.specs.Source.{all_draws}
use Rattle.transcript_fs.specs.Transcript.{transcript}
use Rattle.gkr_layers.specs.Acceptance.{Accepts, claim_in, verdict_of}
use Rattle.proof_wire.specs.Lists.{all_messages, HaveShape}
use Rattle.gkr_layers.specs.declared.verdict.Verdict.{Verdict}
use Rattle.gkr_verify.specs.ShortProof.{filled}
use Rattle.arr_compile.specs.Circuits.{IsCompiled, IsCircuitRefusal}
use Rattle.case_text.specs.Content.{Content}
use Rattle.case_prove.specs.Circuits.{IsCircuitMiscounted}
use Rattle.case_prove.specs.Started.{start_of}
use Rattle.case_prove.specs.declared.refused.Refused.{Refused}
use Rattle.case_prove.specs.declared.refused.Refused.TheVariants.{Program, Input, Output, Proof, Memory}

-- The case's program has a circuit with as many inputs as the case, and the case has outputs.
pub record IsClaim (c : Content) (parts : Parts) (outputs : List F) : Type 0 where
  pub compiled : IsCompiled c.lang c.program parts
  pub counted : length c.inputs ≡ parts.inputs
  pub outputs_are : c.outputs ≡ Some outputs

-- The case's proof is one of version 2 of the circuit's shape, and these are its messages, each middle coefficient filled in with the
-- challenges of the case's own transcript.
pub record IsFilledIn (c : Content) (parts : Parts) (outputs : List F) (messages : Messages)
    : Type 0 where
  pub pairs : Pairs
  pub pairs_shape : HavePairs (drop 1 (exponents parts)) pairs.layers
  pub pairs_spelled : c.proof ≡ Some (spelling_two pairs)
  pub filled_is : messages ≡ filled parts outputs transcript
      (start_of Line c.program c.inputs outputs) pairs

-- The case's proof says these messages of a form: it spells them, or by lines what they are filled in from.
abbrev pub Says : ProofForm → Content → Parts → List F → Messages → Type 0
Says Line c parts outputs messages =
    (c.proof ≡ Some (spelling Line messages)) ⊎ IsFilledIn c parts outputs messages
Says Pair c parts outputs messages = c.proof ≡ Some (spelling Pair messages)

-- The case's proof says these messages, which are of this form and of the circuit's shape, and the case has as many outputs as the
-- circuit.
pub record HasProof (form : ProofForm) (c : Content) (parts : Parts) (outputs : List F)
    (messages : Messages) : Type 0 where
  pub claim : IsClaim c parts outputs
  pub as_many : length outputs ≡ parts.outputs
  pub of_shape : HaveShape form (drop 1 (exponents parts)) messages.layers
  pub spelled : Says form c parts outputs messages

-- The case's proof, as one of this form, has been read: as these messages, for this circuit.
abbrev pub IsReadAs : ProofForm → Content → Parts → Messages → Type 0
IsReadAs form c parts messages = (outputs : List F) × HasProof form c parts outputs messages

-- the form that the fourth byte of the case's proof names
abbrev pub proof_form : Content → ProofForm
proof_form c = form_of (unwrap_or c.proof [])

-- the answer to these messages, with the challenges of the case's own transcript
abbrev pub transcript_verdict : ProofForm → Content → Parts → List F → Messages → Verdict
transcript_verdict form c parts outputs messages =
    let stated = claim_in form parts c.inputs outputs in
    let qs = all_messages messages.layers in
    verdict_of stated qs
    (all_draws transcript (start_of form c.program c.inputs outputs) stated.k qs)

-- The case's proof says messages of a form and of the circuit's shape, and this is the first equation of acceptance that fails, or none.
pub record IsVerdictOn (c : Content) (verdict : Verdict) : Type 0 where
  pub parts : Parts
  pub outputs : List F
  pub claim : IsClaim c parts outputs
  pub as_many : length outputs ≡ parts.outputs
  pub form : ProofForm
  pub messages : Messages
  pub of_shape : HaveShape form (drop 1 (exponents parts)) messages.layers
  pub spelled : Says form c parts outputs messages
  pub verdict_is : verdict ≡ transcript_verdict form c parts outputs messages

-- The case's proof says messages of a form and of the circuit's shape, and every equation of acceptance holds for
-- them and the challenges of the case's own transcript.
pub record HasAcceptedProof (c : Content) : Type 0 where
  pub parts : Parts
  pub outputs : List F
  pub claim : IsClaim c parts outputs
  pub as_many : length outputs ≡ parts.outputs
  pub form : ProofForm
  pub messages : Messages
  pub of_shape : HaveShape form (drop 1 (exponents parts)) messages.layers
  pub spelled : Says form c parts outputs messages
  pub accepts :
      let stated = claim_in form parts c.inputs outputs in
      let qs = all_messages messages.layers in
      Accepts stated qs
      (all_draws transcript (start_of form c.program c.inputs outputs) stated.k qs)

-- The case has another number of outputs than its circuit.
pub record IsOutputMiscounted (c : Content) (have need : ℕ) : Type 0 where
  pub parts : Parts
  pub outputs : List F
  pub claim : IsClaim c parts outputs
  pub case_has : have ≡ length outputs
  pub circuit_has : need ≡ parts.outputs
  pub differ : have ≢ need

-- The case's proof says no messages of this form and of the circuit's shape; this is its first trouble.
pub record IsBadProof (form : ProofForm) (c : Content) (bad : BadProof) : Type 0 where
  pub parts : Parts
  pub outputs : List F
  pub claim : IsClaim c parts outputs
  pub as_many : length outputs ≡ parts.outputs
  pub proof : List ℕ
  pub proof_is : c.proof ≡ Some proof
  pub trouble : TroubleIn form (exponents parts) proof bad

-- A call that reads the case's proof as one of this form refuses it as the definitions do, or memory ran out.
abbrev pub RefusesProof : ProofForm → Content → Refused → Type 0
RefusesProof form c (Program bad) = IsCircuitRefusal c.lang c.program bad
RefusesProof form c (Input have need) = IsCircuitMiscounted c have need
RefusesProof form c (Output have need) = IsOutputMiscounted c have need
RefusesProof form c (Proof bad) = IsBadProof form c bad
RefusesProof form c Memory = Unit {0}

-- The verifier reads the proof in the form that its fourth byte names.
abbrev pub RefusesVerify : Content → Refused → Type 0
RefusesVerify c refused = RefusesProof (proof_form c) c refused
