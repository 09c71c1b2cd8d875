-- What an accepted case with other outputs than its program's meaning has.
use Rattle.std.specs.Prelude.{◌≡◌, ℕ, List, drop, Some}
use Rattle.field_ext.specs.Field.{F}
use Rattle.circuit_core.specs.Parts.{Parts}
use Rattle.circuit_core.specs.Sound.{exponents}
use Rattle.proof_wire.specs.declared.messages.Messages.{Messages}
use Rattle.proof_wire.specs.declared.form.ProofForm.{ProofForm}
use Rattle.transcript_fs.specs.Source.{all_draws}
use Rattle.transcript_fs.specs.Transcript.{transcript}
use Rattle.gkr_layers.specs.Acceptance.{claim_in}
use Rattle.proof_wire.specs.Lists.{all_messages, HaveShape}
use Rattle.gkr_layers.specs.Soundness.{LetsPass}
use Rattle.case_text.specs.Content.{Content}
use Rattle.case_prove.specs.Evaluated.{IsEvaluated}
use Rattle.case_prove.specs.Started.{start_of}
use Rattle.case_prove.specs.Verified.{IsClaim, Says}

-- The case's outputs are its program's meaning on its inputs.
pub record HasMeaning (c : Content) : Type 0 where
  pub outputs : List F
  pub outputs_are : c.outputs ≡ Some outputs
  pub evaluated : IsEvaluated c outputs

-- Challenge n of the case's own transcript is one of the few that are exceptional after the messages and challenges before it.
pub record HasExceptionalChallenge (c : Content) (n : ℕ) : Type 0 where
  pub parts : Parts
  pub outputs : List F
  pub claim : IsClaim c parts outputs
  pub form : ProofForm
  pub messages : Messages
  pub of_shape : HaveShape form (drop 1 (exponents parts)) messages.layers
  pub spelled : Says form c parts outputs messages
  pub passes :
      let stated = claim_in form parts c.inputs outputs in
      let qs = all_messages messages.layers in
      LetsPass stated qs
      (all_draws transcript (start_of form c.program c.inputs outputs) stated.k qs) n
