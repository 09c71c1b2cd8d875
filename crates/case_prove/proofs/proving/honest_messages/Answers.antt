-- The transcript is that of the case and its outputs.
use Rattle.std.proofs.Common.{List, ℕ, subst}
use Rattle.std.proofs.lemmas.Result.{IfOk-weaker}
use Rattle.transcript_fs.specs.Transcript.{transcript}
use Rattle.proof_wire.specs.Lists.{all_messages}
use Rattle.gkr_layers.specs.Honest.{AreHonestMessages}
use Rattle.case_prove.proofs.proving.honest_messages.Goals as goal

pub returns-clause-honest : goal.returns-clause-honest
returns-clause-honest g c =
    let case = c.args.case.now in
    IfOk-weaker c.prove_as.result _ _
    (λ messages honest. subst (λ (s : List ℕ). AreHonestMessages c.args.form c.args.circuit.now.parts case.inputs transcript s (all_messages messages.layers)) c.transcript_of-challenges.ensures (honest case.inputs c.requires.tables))
    c.prove_as.ensures.honest
