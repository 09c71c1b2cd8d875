-- A sum fails of the messages that the case's proof says.
use Rattle.std.proofs.Common.{◌≡◌, ℕ, List, Option, MatchOption, sym, subst}
use Rattle.field_ext.specs.Field.{F}
use Rattle.circuit_core.specs.Parts.{Parts}
use Rattle.proof_wire.specs.declared.form.ProofForm.TheVariants.{Line}
use Rattle.gkr_layers.specs.declared.verdict.Verdict.TheVariants.{Accepted}
use Rattle.gkr_layers.specs.Equations.{Equation, first_failure}
use Rattle.gkr_verify.specs.declared.sums.LayerSum.{LayerSum}
use Rattle.gkr_verify.specs.Rounds.{layer_failure}
use Rattle.gkr_verify.specs.ShortProof.{sums_of}
use Rattle.transcript_fs.specs.Transcript.{transcript}
use Rattle.case_text.specs.Content.{Content}
use Rattle.case_prove.specs.Converted.{own_sums}
use Rattle.case_prove.proofs.api.ReadProofs.{with_outputs}
use Rattle.case_prove.proofs.converting.convert_claim.Goals as goal

pub returns-in-Some-2 : goal.returns-in-Some-2
returns-in-Some-2 c =
    let case : Content = c.args.case.now in
    let parts : Parts = c.args.circuit.now.parts in
    let outputs : List F = c.in-Some.outputs.now in
    let sums : List Equation = own_sums c.args.case.now c.args.circuit.now.parts c.in-Some.outputs.now c.args.messages.now in
    let found : MatchOption c.in_ok-fault-in-Two.field-0 (first_failure sums ≡ Accepted) (λ fault. first_failure sums ≡ layer_failure fault) =
    subst
    (λ (s : List ℕ). MatchOption c.in_ok-fault-in-Two.field-0 (first_failure (sums_of c.args.circuit.now.parts c.in-Some.outputs.now transcript s c.args.messages.now) ≡ Accepted)
    (λ fault. first_failure (sums_of c.args.circuit.now.parts c.in-Some.outputs.now transcript s c.args.messages.now) ≡ layer_failure fault))
    (c.requires.start outputs (sym c.in-Some.ensures)) c.in_ok-fault-in-Two.ensures in (
      c.in-Two.is,
      record {
        parts = parts;
        outputs = outputs;
        messages = c.args.messages.now;
        proof = with_outputs Line case parts c.args.messages.now outputs c.requires.read (sym c.in-Some.ensures);
        fails = subst (λ (found : Option LayerSum). MatchOption found (first_failure sums ≡ Accepted) (λ fault. first_failure sums ≡ layer_failure fault)) c.in-Some-2.is found;
      },
    )
