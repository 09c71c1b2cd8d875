use Rattle.std.proofs.Common.{List, ◌∙◌, sym, ap, subst}
use Rattle.std.specs.Prelude.{drop}
use Rattle.circuit_core.specs.Sound.{exponents}
use Rattle.gkr_layers.specs.Equations.{Answered}
use Rattle.gkr_layers.specs.Acceptance.{claim_in, answer_from}
use Rattle.proof_wire.specs.declared.messages.LayerMessages.{LayerMessages}
use Rattle.proof_wire.specs.Lists.{all_messages, HaveShape}
use Rattle.gkr_layers.proofs.api.Answers.{answer_from-verdict}
use Rattle.gkr_layers.proofs.api.Shapes.{drawn, sound}
use Rattle.gkr_verify.proofs.verifier.check_as.Goals as goal

pub check-verdict-requires-clause-shape : goal.check-verdict-requires-clause-shape
check-verdict-requires-clause-shape g c =
    subst (λ (ms : List LayerMessages). HaveShape c.args.form (drop 1 (exponents c.args.circuit.now.parts)) ms) (sym c.as_slice.ensures) c.requires.shape

pub returns-clause-verdict : goal.returns-clause-verdict
returns-clause-verdict g c =
    let stated = claim_in c.args.form c.args.circuit.now.parts c.args.inputs.now c.args.outputs.now in
    ap (λ (x : Answered). x.verdict) (c.check-verdict.ensures.answer ∙ (λ i. answer_from stated g.C.Challenges.source (g.C.Challenges.state c.args.challenges.now) (all_messages (c.as_slice.ensures i))))
    ∙ answer_from-verdict stated g.C.Challenges.source (g.C.Challenges.state c.args.challenges.now) (all_messages c.args.messages.now.layers)

pub returns-clause-state : goal.returns-clause-state
returns-clause-state g c =
    let stated = claim_in c.args.form c.args.circuit.now.parts c.args.inputs.now c.args.outputs.now in
    ap (λ (x : Answered). x.state) (c.check-verdict.ensures.answer ∙ (λ i. answer_from stated g.C.Challenges.source (g.C.Challenges.state c.args.challenges.now) (all_messages (c.as_slice.ensures i))))

pub returns-clause-sound : goal.returns-clause-sound
returns-clause-sound g c accepted false' =
    let circuit = c.args.circuit.now in
    sound circuit c.args.inputs.now c.args.outputs.now c.requires.outputs c.args.form c.args.messages.now _ c.requires.shape
    (drawn c.args.form circuit.parts c.args.inputs.now c.args.outputs.now g.C.Challenges.source (g.C.Challenges.state c.args.challenges.now) c.args.messages.now c.requires.shape)
    (sym (returns-clause-verdict g c) ∙ accepted) false'
