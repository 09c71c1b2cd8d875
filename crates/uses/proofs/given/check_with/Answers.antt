use Rattle.std.proofs.Common.{◌≡◌, ℕ, ◌+◌, sym, subst, ap, ap₂, ◌∙◌, List, arith, length-append}
use Rattle.std.proofs.lemmas.Result.{IfOk-weaker}
use Rattle.std.specs.Prelude.{IsTrue, length}
use Rattle.field_ext.specs.Field.{K}
use Rattle.gkr_layers.specs.Acceptance.{challenge_count, claim_of, verdict_of}
use Rattle.proof_wire.specs.declared.form.ProofForm.TheVariants.{Line}
use Rattle.proof_wire.specs.Lists.{all_messages}
use Rattle.transcript_fs.specs.Given.{given, has_elements, numbers_of}
use Rattle.transcript_fs.specs.Source.{Source, all_draws, point_draws, draws, state_after_point}
use Rattle.transcript_fs.proofs.api.Draws.{length-coordinates, length-draws}
use Rattle.gkr_verify.proofs.api.GivenDraws.{given-all, given-has}
use Rattle.uses.proofs.given.check_with.Goals as goal

pub check-requires-clause-has : goal.check-requires-clause-has
check-requires-clause-has c =
    let count = challenge_count (claim_of c.args.circuit.now.parts c.args.inputs.now c.args.outputs.now) in
    let many : length c.args.challenges.items ≡ count = omega (arith, c.requires.challenges) in
    subst (λ (rs : List K). IsTrue (has_elements (numbers_of rs) count)) (sym c.of-source.ensures)
    (subst (λ (n : ℕ). IsTrue (has_elements (numbers_of c.args.challenges.items) n)) many (given-has c.args.challenges.items))

-- as many messages as draws after the point
as_many : (source : Source) (s : List ℕ) (k : ℕ) (qs : List (List K)) → length (all_draws source s k qs) ≡ k + length qs
as_many source s k qs = length-append (point_draws source s k) (draws source (state_after_point source s k) qs)
    ∙ ap₂ (λ (m n : ℕ). m + n) (length-coordinates source s k) (length-draws source (state_after_point source s k) qs)

pub returns : goal.returns
returns c =
    let parts = c.args.circuit.now.parts in
    let stated = claim_of parts c.args.inputs.now c.args.outputs.now in
    let qs = all_messages c.args.messages.now.layers in
    let rs = c.args.challenges.items in
    let many = c.sound.ensures.draws Line c.args.circuit.now c.args.inputs.now c.args.outputs.now c.args.messages.now given (numbers_of rs) c.requires.shape in
    let enough : length rs ≡ stated.k + length qs = omega (arith, c.requires.challenges, many, as_many given (numbers_of rs) stated.k qs) in
    let list : all_draws given (numbers_of c.of-source.result) stated.k qs ≡ rs =
    subst (λ (x : List K). all_draws given (numbers_of x) stated.k qs ≡ rs) (sym c.of-source.ensures) (given-all rs stated.k qs enough) in
    IfOk-weaker c.check.result _ _ (λ verdict is. is ∙ ap (verdict_of stated qs) list) c.check.ensures.verdict
