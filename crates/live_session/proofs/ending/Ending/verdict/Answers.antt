-- The messages are those of the elements, and the challenges the words
use Rattle.std.proofs.Common.{◌≡◌, ℕ, ◌+◌, List, IsTrue, length, sym, ◌∙◌, ap, subst, arith}
use Rattle.field_ext.specs.Field.{K}
use Rattle.circuit_core.specs.Sound.{exponent_at}
use Rattle.gkr_layers.specs.Acceptance.{CircuitClaim, claim_of, verdict_of}
use Rattle.gkr_layers.specs.Equations.{Answered}
use Rattle.gkr_layers.specs.Layers.{layers_of}
use Rattle.gkr_layers.proofs.api.Answers.{answer_from-verdict}
use Rattle.gkr_layers.proofs.api.Shapes.{have_circuit_shape, length-all}
use Rattle.gkr_verify.proofs.api.GivenDraws.{given-all, given-has}
use Rattle.proof_wire.specs.declared.form.ProofForm.TheVariants.{Line}
use Rattle.proof_wire.specs.declared.messages.LayerMessages.{LayerMessages}
use Rattle.proof_wire.specs.Lists.{HaveShape, all_messages}
use Rattle.transcript_fs.specs.Given.{given, numbers_of}
use Rattle.proof_wire.proofs.api.Lengths.{count_is}
use Rattle.proof_wire.specs.Spelling.{all_coefficients}
use Rattle.std.proofs.lemmas.List.{with_items_is}
use Rattle.live_session.specs.Layout.{messages_in}
use Rattle.live_session.specs.Verifying.{lower}
use Rattle.live_session.proofs.SpelledSteps.{spelled_as}
use Rattle.live_session.proofs.ending.Ending.verdict.Goals as goal

pub fill-requires : goal.fill-requires
fill-requires c =
    let p = c.args.circuit.now.parts in
    omega (arith, c.requires.elements, count_is Line (lower p) c.args.self.now.layers.items c.requires.ready.shape, ap (λ (ms : List LayerMessages). length (all_coefficients ms)) c.deref_mut.ensures.value)

pub check-requires-clause-shape : goal.check-requires-clause-shape
check-requires-clause-shape c =
    let p = c.args.circuit.now.parts in
    let shape : HaveShape Line (lower c.args.circuit.now.parts) c.fill.new.layers = c.fill.ensures.shape (lower p) (subst (HaveShape Line (lower p)) (sym c.deref_mut.ensures.value) c.requires.ready.shape) in
    let layers : c.deref.result.now ≡ c.fill.new.layers = c.deref.ensures.value ∙ with_items_is c.args.self.now.layers c.fill.new.layers (c.fill.auto.layers ∙ c.deref_mut.ensures.len) in
    have_circuit_shape Line p c.deref.result.now (subst (HaveShape Line (lower p)) (sym layers) shape)

pub check-requires-clause-has : goal.check-requires-clause-has
check-requires-clause-has c =
    subst (λ (n : ℕ). IsTrue (given.has (numbers_of c.args.self.now.challenges) n)) c.requires.challenges (given-has c.args.self.now.challenges)

pub returns-clause-verdict : goal.returns-clause-verdict
returns-clause-verdict c =
    let p = c.args.circuit.now.parts in
    let stated : CircuitClaim = claim_of p c.args.inputs.now c.args.outputs.now in
    let words : List K = c.args.self.now.challenges in
    let qs : List (List K) = all_messages c.deref.result.now in
    let shape : HaveShape Line (lower c.args.circuit.now.parts) c.fill.new.layers = c.fill.ensures.shape (lower p) (subst (HaveShape Line (lower p)) (sym c.deref_mut.ensures.value) c.requires.ready.shape) in
    let layers : c.deref.result.now ≡ c.fill.new.layers = c.deref.ensures.value ∙ with_items_is c.args.self.now.layers c.fill.new.layers (c.fill.auto.layers ∙ c.deref_mut.ensures.len) in
    let messages : all_messages c.deref.result.now ≡ messages_in (lower c.args.circuit.now.parts) c.args.elements.now =
    ap all_messages layers ∙ sym (spelled_as (lower p) c.fill.new.layers shape) ∙ ap (messages_in (lower p)) c.fill.ensures.filled in
    let many : length (all_messages c.deref.result.now) ≡ length (all_messages c.fill.new.layers) = ap (λ (ms : List LayerMessages). length (all_messages ms)) layers in
    let enough : length c.args.self.now.challenges ≡ exponent_at c.args.circuit.now.parts 0 + length (all_messages c.deref.result.now) =
    omega (arith, c.requires.challenges, many, length-all Line (layers_of p) c.fill.new.layers shape) in
    ap (λ (x : Answered). x.verdict) c.check.ensures.answer
    ∙ answer_from-verdict stated given (numbers_of words) qs
    ∙ ap (verdict_of stated qs) (given-all words (exponent_at p 0) qs enough)
    ∙ ap (λ (q : List (List K)). verdict_of stated q words) messages
