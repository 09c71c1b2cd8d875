-- What `convert` says of a case: the case with its proof in a version, or the first sum equation that keeps it from that.
use Rattle.std.specs.Prelude.{◌≡◌, List, Some}
use Rattle.field_ext.specs.Field.{F}
use Rattle.circuit_core.specs.Parts.{Parts}
use Rattle.proof_wire.specs.declared.form.ProofForm.TheVariants.{Line}
use Rattle.proof_wire.specs.declared.messages.Messages.{Messages}
use Rattle.proof_two.specs.declared.kind.ProofKind.TheVariants.{ByLines}
use Rattle.proof_two.specs.declared.kind.ProofVersion.{ProofVersion}
use Rattle.proof_two.specs.declared.kind.ProofVersion.TheVariants.{Two}
use Rattle.proof_two.specs.Kinds.{kind_spelling}
use Rattle.transcript_fs.specs.Transcript.{transcript}
use Rattle.gkr_layers.specs.declared.verdict.Verdict.TheVariants.{Accepted}
use Rattle.gkr_layers.specs.Equations.{Equation, first_failure}
use Rattle.gkr_verify.specs.declared.sums.LayerSum.{LayerSum}
use Rattle.gkr_verify.specs.Rounds.{layer_failure}
use Rattle.gkr_verify.specs.ShortProof.{sums_of}
use Rattle.case_text.specs.Content.{Content}
use Rattle.case_prove.specs.Started.{start_of}
use Rattle.case_prove.specs.Verified.{HasProof, RefusesProof}
use Rattle.case_prove.specs.declared.converting.Converted.{Converted}
use Rattle.case_prove.specs.declared.converting.Converted.TheVariants as converted
use Rattle.case_prove.specs.declared.refused.Refused.{Refused}

-- the sum equations of these messages, with the challenges of the case's own transcript
abbrev pub own_sums : Content → Parts → List F → Messages → List Equation
own_sums c parts outputs messages =
    sums_of parts outputs transcript (start_of Line c.program c.inputs outputs) messages

-- The case's proof says messages by lines, every sum equation holds of them if they are to be written in version 2, and the second
-- case is the first with these messages in the version.
pub record IsConverted (version : ProofVersion) (c written : Content) : Type 0 where
  pub parts : Parts
  pub outputs : List F
  pub messages : Messages
  pub proof : HasProof Line c parts outputs messages
  pub sums : version ≡ Two → first_failure (own_sums c parts outputs messages) ≡ Accepted
  pub written_is : written ≡ record {
    lang = c.lang;
    program = c.program;
    inputs = c.inputs;
    outputs = c.outputs;
    proof = Some (kind_spelling (ByLines version) messages);
  }

-- The case's proof says messages by lines, and this is the first sum equation that fails.
pub record FailsSum (c : Content) (fault : LayerSum) : Type 0 where
  pub parts : Parts
  pub outputs : List F
  pub messages : Messages
  pub proof : HasProof Line c parts outputs messages
  pub fails : first_failure (own_sums c parts outputs messages) ≡ layer_failure fault

-- A case in a version, or the sum that fails, which can be where that is version 2 alone.
abbrev pub IsConvertedTo : ProofVersion → Content → Converted → Type 0
IsConvertedTo version c (converted.Case written) = IsConverted version c written
IsConvertedTo version c (converted.Sum fault) = (version ≡ Two) × FailsSum c fault

-- `convert` reads the proof as one by lines, whatever its fourth byte is.
abbrev pub RefusesConvert : Content → Refused → Type 0
RefusesConvert c refused = RefusesProof Line c refused
