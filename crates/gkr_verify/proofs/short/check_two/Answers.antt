use Rattle.std.proofs.Common.{◌≡◌, ℕ, ◌+◌, List, [], false, IsTrue, drop, length, sym, ◌∙◌, ap, subst, rules}
use Rattle.std.specs.Prelude.{IfOk}
use Rattle.field_ext.specs.Field.{K}
use Rattle.circuit_core.specs.Parts.{Parts}
use Rattle.circuit_core.specs.Sound.{exponent_at, exponents}
use Rattle.transcript_fs.specs.Source.{Source, all_draws}
use Rattle.transcript_fs.specs.Given.{numbers_of, given}
use Rattle.proof_wire.specs.declared.messages.Messages.{Messages}
use Rattle.proof_wire.specs.declared.form.ProofForm.TheVariants.{Line}
use Rattle.proof_wire.specs.Lists.{all_messages, HaveShape}
use Rattle.gkr_layers.specs.declared.verdict.Verdict.{Verdict}
use Rattle.gkr_layers.specs.declared.verdict.Verdict.TheVariants.{Accepted}
use Rattle.gkr_layers.specs.Layers.{layers_of}
use Rattle.gkr_layers.specs.Acceptance.{CircuitClaim, claim_of, verdict_of}
use Rattle.gkr_layers.specs.Soundness.{LetsPass, IsFalse}
use Rattle.gkr_layers.proofs.api.Shapes.{drawn, have_shape, length-all}
use Rattle.gkr_verify.specs.ShortProof.{filled, is_sum}
use Rattle.gkr_verify.proofs.FillSteps.{ok_map}
use Rattle.gkr_verify.proofs.api.Filled.{filled-hold, no_sum}
use Rattle.gkr_verify.proofs.api.GivenDraws.{given-all, given-has}
use Rattle.gkr_verify.proofs.short.check_two.Goals as goal

pub check-requires-clause-has : goal.check-requires-clause-has
check-requires-clause-has g c =
    let source : Source = g.C.Challenges.source in
    let s : List ℕ = g.C.Challenges.state c.args.challenges.now in
    let many = ap length (c.of-given.ensures ∙ c.in_ok-filled.ensures.drawn) ∙ drawn Line c.args.circuit.now.parts c.args.inputs.now c.args.outputs.now source s c.in_ok-filled.filled.messages c.in_ok-filled.ensures.shape in
    subst (λ (n : ℕ). IsTrue (given.has (numbers_of c.of-given.result) n)) many (given-has c.of-given.result)

-- the challenges that are given back are those that were drawn
given_back : (source : Source) (s : List ℕ) (p : Parts) (messages : Messages) → HaveShape Line (drop 1 (exponents p)) messages.layers → (xs : List K) → xs ≡ all_draws source s (exponent_at p 0) (all_messages messages.layers) →
    all_draws given (numbers_of xs) (exponent_at p 0) (all_messages messages.layers) ≡ all_draws source s (exponent_at p 0) (all_messages messages.layers)
given_back source s p messages shape xs e =
    let many = ap length e ∙ drawn Line p [] [] source s messages shape ∙ ap (λ (n : ℕ). exponent_at p 0 + n) (sym (length-all Line (layers_of p) messages.layers (have_shape Line p messages shape))) in
    given-all xs (exponent_at p 0) (all_messages messages.layers) many ∙ e

pub returns-clause-verdict : goal.returns-clause-verdict
returns-clause-verdict g c =
    let source : Source = g.C.Challenges.source in
    let s : List ℕ = g.C.Challenges.state c.args.challenges.now in
    let p : Parts = c.args.circuit.now.parts in
    let stated : CircuitClaim = claim_of p c.args.inputs.now c.args.outputs.now in
    let made : Messages = c.in_ok-filled.filled.messages in
    let same = given_back source s p made c.in_ok-filled.ensures.shape c.of-given.result (c.of-given.ensures ∙ c.in_ok-filled.ensures.drawn) in
    coe 0 1 (j. IfOk c.check.result (λ (verdict : Verdict). verdict ≡ verdict_of stated (all_messages (c.in_ok-filled.ensures.messages j).layers) (all_draws source s (exponent_at p 0) (all_messages (c.in_ok-filled.ensures.messages j).layers))))
    (coe 0 1 (j. IfOk c.check.result (λ (verdict : Verdict). verdict ≡ verdict_of stated (all_messages made.layers) (same j))) c.check.ensures.verdict)

pub returns-clause-never_sum : goal.returns-clause-never_sum
returns-clause-never_sum g c =
    let source : Source = g.C.Challenges.source in
    let s : List ℕ = g.C.Challenges.state c.args.challenges.now in
    let p : Parts = c.args.circuit.now.parts in
    let messages : Messages = filled p c.args.outputs.now source s c.args.pairs.now in
    let qs : List (List K) = all_messages messages.layers in
    let shape : HaveShape Line (drop 1 (exponents p)) messages.layers = subst (λ (m : Messages). HaveShape Line (drop 1 (exponents p)) m.layers) c.in_ok-filled.ensures.messages c.in_ok-filled.ensures.shape in
    ok_map (λ (verdict : Verdict). verdict ≡ verdict_of (claim_of p c.args.inputs.now c.args.outputs.now) qs (all_draws source s (exponent_at p 0) qs)) (λ (verdict : Verdict). is_sum verdict ≡ false) c.check.result
    (λ verdict e. ap is_sum e ∙ no_sum p c.args.inputs.now c.args.outputs.now source s messages shape (filled-hold p c.args.outputs.now source s c.args.pairs.now))
    (returns-clause-verdict g c)

pub returns-clause-sound : goal.returns-clause-sound
returns-clause-sound g c =
    let source : Source = g.C.Challenges.source in
    let s : List ℕ = g.C.Challenges.state c.args.challenges.now in
    let p : Parts = c.args.circuit.now.parts in
    let stated : CircuitClaim = claim_of p c.args.inputs.now c.args.outputs.now in
    let made : Messages = c.in_ok-filled.filled.messages in
    let same = given_back source s p made c.in_ok-filled.ensures.shape c.of-given.result (c.of-given.ensures ∙ c.in_ok-filled.ensures.drawn) in
    coe 0 1 (j. IfOk c.check.result (λ (verdict : Verdict). verdict ≡ Accepted → IsFalse p c.args.inputs.now c.args.outputs.now →
    (n : ℕ) × LetsPass stated (all_messages (c.in_ok-filled.ensures.messages j).layers) (all_draws source s (exponent_at p 0) (all_messages (c.in_ok-filled.ensures.messages j).layers)) n))
    (coe 0 1 (j. IfOk c.check.result (λ (verdict : Verdict). verdict ≡ Accepted → IsFalse p c.args.inputs.now c.args.outputs.now →
    (n : ℕ) × LetsPass stated (all_messages made.layers) (same j) n)) c.check.ensures.sound)

pub fill_drawn-requires-clause-outputs : goal.fill_drawn-requires-clause-outputs
fill_drawn-requires-clause-outputs g c = search rules

pub fill_drawn-requires-clause-shape : goal.fill_drawn-requires-clause-shape
fill_drawn-requires-clause-shape g c = search rules

pub fill_drawn-requires-clause-has : goal.fill_drawn-requires-clause-has
fill_drawn-requires-clause-has g c = search rules

pub returns-in_err-filled-clause-verdict : goal.returns-in_err-filled-clause-verdict
returns-in_err-filled-clause-verdict g c = search rules

pub returns-in_err-filled-clause-never_sum : goal.returns-in_err-filled-clause-never_sum
returns-in_err-filled-clause-never_sum g c = search rules

pub returns-in_err-filled-clause-sound : goal.returns-in_err-filled-clause-sound
returns-in_err-filled-clause-sound g c = search rules

pub returns-in_err-filled-clause-state : goal.returns-in_err-filled-clause-state
returns-in_err-filled-clause-state g c = search rules

pub check-requires-clause-inputs : goal.check-requires-clause-inputs
check-requires-clause-inputs g c = search rules

pub check-requires-clause-outputs : goal.check-requires-clause-outputs
check-requires-clause-outputs g c = search rules

pub check-requires-clause-shape : goal.check-requires-clause-shape
check-requires-clause-shape g c = search rules

pub returns-clause-state : goal.returns-clause-state
returns-clause-state g c = search rules
