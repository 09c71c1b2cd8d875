-- The outputs are the program's meaning, and the messages the honest ones.
use Rattle.std.proofs.Common.{ap, arith, drop, subst}
use Rattle.circuit_core.specs.Sound.{SoundCircuit, exponents}
use Rattle.transcript_fs.specs.Transcript.{transcript}
use Rattle.proof_wire.specs.declared.form.ProofForm.{ProofForm}
use Rattle.proof_wire.specs.Lists.{all_messages, HaveShape}
use Rattle.gkr_layers.specs.Honest.{AreHonestMessages}
use Rattle.case_prove.specs.Started.{start_of}
use Rattle.case_text.specs.Content.{Content}
use Rattle.std.specs.Prelude.{length}
use Rattle.case_prove.proofs.proving.prove_laid_out.Goals as goal

pub honest_messages-requires-clause-few : goal.honest_messages-requires-clause-few
honest_messages-requires-clause-few g c κs within =
    omega (arith, ap length c.deref.ensures.value, c.in_ok-outputs.ensures.as_many, c.circuit_is_sound.ensures.few_outputs c.args.case.now.lang c.args.case.now.program c.args.circuit.now.parts c.requires.compiled)

pub proved_case-requires-clause-honest : goal.proved_case-requires-clause-honest
proved_case-requires-clause-honest g c =
    let circuit : SoundCircuit = c.args.circuit.now in
    let case : Content = c.args.case.now in
    coe 0 1 (i. AreHonestMessages (c.form-form.ensures i) circuit.parts case.inputs transcript (start_of (c.form-form.ensures i) case.program case.inputs (c.deref.ensures.value i)) (all_messages c.in_ok-messages.messages.layers))
    c.in_ok-messages.ensures.honest

pub proved_case-requires-clause-shape : goal.proved_case-requires-clause-shape
proved_case-requires-clause-shape g c =
    subst (λ (form : ProofForm). HaveShape form (drop 1 (exponents c.args.circuit.now.parts)) c.in_ok-messages.messages.layers) c.form-form.ensures c.in_ok-messages.ensures.shape
