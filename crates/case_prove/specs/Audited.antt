-- What an audit says of a case, or why there is none.
use Rattle.std.specs.Prelude.{List}
use Rattle.field_ext.specs.Field.{F, K}
use Rattle.circuit_core.specs.Parts.{Parts}
use Rattle.circuit_core.specs.Sound.{exponent_at}
use Rattle.proof_wire.specs.declared.messages.Messages.{Messages}
use Rattle.proof_wire.specs.declared.form.ProofForm.TheVariants.{Line}
use Rattle.proof_wire.specs.Lists.{all_messages}
use Rattle.transcript_fs.specs.Source.{all_draws}
use Rattle.transcript_fs.specs.Transcript.{transcript}
use Rattle.audit_core.specs.Audit.{IsAuditOf}
use Rattle.audit_core.specs.declared.report.Audit.{Audit}
use Rattle.case_text.specs.Content.{Content}
use Rattle.case_prove.specs.Started.{start_of}
use Rattle.case_prove.specs.Verified.{HasProof, RefusesProof}
use Rattle.case_prove.specs.declared.refused.Refused.{Refused}

-- the challenges of the case's own transcript with these messages
abbrev pub own_challenges : Content → Parts → List F → Messages → List K
own_challenges c parts outputs messages =
    all_draws transcript (start_of Line c.program c.inputs outputs) (exponent_at parts 0)
    (all_messages messages.layers)

-- The case's proof spells messages by lines and of the circuit's shape, and this is what is to be said of them, with the challenges of
-- the case's own transcript.
pub record IsAudited (c : Content) (audit : Audit) : Type 0 where
  pub parts : Parts
  pub outputs : List F
  pub messages : Messages
  pub proof : HasProof Line c parts outputs messages
  pub audit_is : IsAuditOf Line parts c.inputs outputs (all_messages messages.layers)
      (own_challenges c parts outputs messages) audit

-- An audit reads the proof as one by lines, whatever its fourth byte is.
abbrev pub RefusesAudit : Content → Refused → Type 0
RefusesAudit c refused = RefusesProof Line c refused
