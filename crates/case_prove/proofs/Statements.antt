-- A verdict from the own start is one with the challenges of the case's own transcript.
use Rattle.std.proofs.Common.{◌≡◌, ℕ, List, ap, ◌∙◌}
use Rattle.field_ext.specs.Field.{F}
use Rattle.circuit_core.specs.Parts.{Parts}
use Rattle.proof_wire.specs.declared.messages.Messages.{Messages}
use Rattle.transcript_fs.specs.Source.{all_draws}
use Rattle.transcript_fs.specs.Transcript.{transcript}
use Rattle.gkr_layers.specs.Acceptance.{claim_in, verdict_of}
use Rattle.proof_wire.specs.Lists.{all_messages}
use Rattle.gkr_layers.specs.declared.verdict.Verdict.{Verdict}
use Rattle.case_text.specs.Content.{Content}
use Rattle.proof_wire.specs.declared.form.ProofForm.{ProofForm}
use Rattle.case_prove.specs.Started.{start_of}
use Rattle.case_prove.specs.Verified.{transcript_verdict}

-- the verdict on messages, from a state of the transcript
abbrev pub verdict_from : ProofForm → Parts → List F → List F → Messages → List ℕ → Verdict
verdict_from form parts inputs outputs messages state =
    let stated = claim_in form parts inputs outputs in
    let qs = all_messages messages.layers in
    verdict_of stated qs (all_draws transcript state stated.k qs)

-- the verdict from the own start is the one of the case's own transcript
pub of_start : (form : ProofForm) (c : Content) (parts : Parts) (outputs : List F) (messages : Messages) (v : Verdict) (inputs : List F) (state : List ℕ)
    → inputs ≡ c.inputs → state ≡ start_of form c.program c.inputs outputs → v ≡ verdict_from form parts inputs outputs messages state → v ≡ transcript_verdict form c parts outputs messages
of_start form c parts outputs messages v inputs state of_inputs of_state e =
    e
    ∙ ap (λ (xs : List F). verdict_from form parts xs outputs messages state) of_inputs
    ∙ ap (λ (s : List ℕ). verdict_from form parts c.inputs outputs messages s) of_state
