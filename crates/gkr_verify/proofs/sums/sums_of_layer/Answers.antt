use Rattle.std.proofs.Common.{◌≡◌, ℕ, List, [], IsTrue, sym, ◌∙◌, ap, subst}
use Rattle.std.proofs.lemmas.Result.{err_from_is_err_and}
use Rattle.field_ext.specs.Field.{K}
use Rattle.transcript_fs.specs.Source.{Source, draws, state_after}
use Rattle.proof_wire.specs.Lists.{round_messages}
use Rattle.gkr_layers.specs.declared.verdict.Verdict.TheVariants.{Accepted}
use Rattle.gkr_layers.specs.Equations.{sum_equations, first_failure}
use Rattle.gkr_verify.specs.Rounds.{sum_failure}
use Rattle.gkr_verify.proofs.FillSteps.{layer_state, last_has}
use Rattle.gkr_verify.proofs.SumSteps.{first_of_answer}
use Rattle.gkr_verify.proofs.sums.sums_of_layer.Goals as goal

pub returns-in_err-check_rounds-clause-fails : goal.returns-in_err-check_rounds-clause-fails
returns-in_err-check_rounds-clause-fails g c =
    let source : Source = g.C.Challenges.source in
    let s : List ℕ = g.C.Challenges.state c.args.challenges.now in
    let qs : List (List K) = round_messages c.as_slice-rounds.result.now in
    let same = ap round_messages c.as_slice-rounds.ensures in
    let p = err_from_is_err_and c.from_residual.result c.from_residual.ensures.1 in
    rw (p.1, p.2) (λ number.
    coe 0 1 (j. first_failure (sum_equations number 1 c.args.claim (same j) (draws source s (same j))) ≡ sum_failure number c.in_err-check_rounds.field-0.0)
    (first_of_answer source s (sum_equations number 1 c.args.claim qs (draws source s qs)) qs (sum_failure number c.in_err-check_rounds.field-0.0) (g.C.Challenges.state c.check_rounds.new.challenges) (c.in_err-check_rounds.ensures.fails number [] [])))

pub challenge-requires : goal.challenge-requires
challenge-requires g c =
    let source : Source = g.C.Challenges.source in
    let s : List ℕ = g.C.Challenges.state c.args.challenges.now in
    let state = c.in_ok-check_rounds.ensures.state ∙ ap (λ (qs : List (List K)). state_after source s qs) (ap round_messages c.as_slice-rounds.ensures) in
    subst (λ (t : List ℕ). IsTrue (source.has t 1)) (sym c.absorb.ensures)
    (source.has_absorbed (g.C.Challenges.state c.check_rounds.new.challenges) c.as_slice-last.result.now 1
    (subst (λ (t : List ℕ). IsTrue (source.has t 1)) (sym state) (last_has source s c.args.messages.now c.requires.has)))

pub returns-clause-holds : goal.returns-clause-holds
returns-clause-holds g c number =
    let source : Source = g.C.Challenges.source in
    let s : List ℕ = g.C.Challenges.state c.args.challenges.now in
    let qs : List (List K) = round_messages c.as_slice-rounds.result.now in
    let same = ap round_messages c.as_slice-rounds.ensures in
    coe 0 1 (j. first_failure (sum_equations number 1 c.args.claim (same j) (draws source s (same j))) ≡ Accepted)
    (first_of_answer source s (sum_equations number 1 c.args.claim qs (draws source s qs)) qs Accepted (state_after source s qs) (c.in_ok-check_rounds.ensures.holds number [] []))

pub returns-clause-state : goal.returns-clause-state
returns-clause-state g c =
    let source : Source = g.C.Challenges.source in
    let s : List ℕ = g.C.Challenges.state c.args.challenges.now in
    let state = c.in_ok-check_rounds.ensures.state ∙ ap (λ (qs : List (List K)). state_after source s qs) (ap round_messages c.as_slice-rounds.ensures) in
    layer_state source s c.args.messages.now (g.C.Challenges.state c.challenge.new.self)
    (c.challenge.ensures.state ∙ ap source.after (c.absorb.ensures ∙ (λ j. source.absorb (state j) (c.as_slice-last.ensures j))))
