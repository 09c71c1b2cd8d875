use Rattle.std.proofs.Common.{◌∙◌}
use Rattle.std.proofs.lemmas.Result.{IfOk-weaker}
use Rattle.circuit_eval.specs.Tables.{AreTables}
use Rattle.gkr_layers.specs.Honest.{IsHonestProof}
use Rattle.proof_wire.specs.declared.form.ProofForm.TheVariants.{Line}
use Rattle.proof_wire.specs.Lists.{all_messages}
use Rattle.transcript_fs.specs.Transcript.{start_state, transcript}
use Rattle.uses.proofs.honest.prove_and_check.Goals as goal

pub returns : goal.returns
returns g c =
    let s = c.args.statement.now in
    let state = start_state s.text s.inputs s.outputs in
    let tables : AreTables c.args.circuit.now.parts s.inputs c.in_ok-values.values = rw c.inputs.ensures.value at c.in_ok-values.ensures in
    let honest : IsHonestProof c.args.circuit.now.parts s.inputs transcript state (all_messages c.in_ok-messages.messages.layers) =
    rw c.start-challenges.ensures at c.in_ok-messages.ensures.honest s.inputs tables in
    let accepted =
    c.honest_is_accepted.ensures.proofs Line c.args.circuit.now s.inputs s.outputs transcript state c.in_ok-messages.messages c.requires.counted.as_many_outputs c.requires.outputs c.in_ok-messages.ensures.shape honest in
    IfOk-weaker c.check_statement.result _ _ (λ verdict is. is ∙ accepted) c.check_statement.ensures
