-- Both ends are started on what the case means.
use Rattle.std.proofs.Common.{List, ◌∙◌, ap, length, subst}
use Rattle.field_ext.specs.Field.{F}
use Rattle.circuit_eval.specs.Tables.{AreTables}
use Rattle.gkr_layers.specs.Layers.{challenges_of}
use Rattle.session_prove.proofs.Begun.{have_begun, is_session, started_on}
use Rattle.session_prove.proofs.OneSession.{challenges-count}
use Rattle.session_prove.proofs.session.run_session.Goals as goal

pub start-requires-clause-words : goal.start-requires-clause-words
start-requires-clause-words g c =
    ap length (c.deref-2.ensures.value ∙ c.in_ok-challenges.ensures) ∙ challenges-count c.args.words.now (challenges_of c.args.circuit.now.parts) c.requires.paired

pub exchange-requires-clause-begun : goal.exchange-requires-clause-begun
exchange-requires-clause-begun g c κs within =
    let on = started_on c.args.circuit.now.parts c.args.case.now.inputs c.inputs-2.result.now c.in_ok-outputs.outputs.items c.deref.result.now c.args.words.now c.in_ok-challenges.challenges.items c.deref-2.result.now c.in_ok-verifier.verifier
    c.in_ok-verifier.ensures c.inputs-2.ensures.inputs c.deref.ensures.value c.deref-2.ensures.value c.in_ok-challenges.ensures in
    have_begun c.args.circuit.now.parts c.args.case.now.inputs c.in_ok-outputs.outputs.items c.args.words.now c.in_ok-values.values c.in_ok-verifier.verifier c.in_ok-prover.prover on c.in_ok-prover.ensures
    (subst (λ (inputs : List F). AreTables c.args.circuit.now.parts inputs c.in_ok-values.values) c.inputs.ensures.inputs c.in_ok-values.ensures)
    c.in_ok-outputs.ensures.as_many c.in_ok-outputs.ensures.outputs (challenges-count c.args.words.now (challenges_of c.args.circuit.now.parts) c.requires.paired)

pub returns : goal.returns
returns g c =
    let on = started_on c.args.circuit.now.parts c.args.case.now.inputs c.inputs-2.result.now c.in_ok-outputs.outputs.items c.deref.result.now c.args.words.now c.in_ok-challenges.challenges.items c.deref-2.result.now c.in_ok-verifier.verifier
    c.in_ok-verifier.ensures c.inputs-2.ensures.inputs c.deref.ensures.value c.deref-2.ensures.value c.in_ok-challenges.ensures in
    is_session c.args.case.now c.args.words.now c.args.circuit.now.parts c.in_ok-outputs.outputs.items c.in_ok-verifier.verifier c.exchange.result on
    (record { compiled = c.requires.compiled; counted = c.requires.counted; paired = c.requires.paired })
    c.in_ok-outputs.ensures.meaning c.exchange.ensures.ended c.exchange.ensures.sizes
