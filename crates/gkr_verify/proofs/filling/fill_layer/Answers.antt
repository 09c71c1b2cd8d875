use Rattle.std.proofs.Common.{◌≡◌, ℕ, List, ◌++◌, IsTrue, length, sym, ◌∙◌, ap, subst, rules}
use Rattle.field_ext.specs.Field.{K}
use Rattle.transcript_fs.specs.Source.{Source, draws, state_after}
use Rattle.proof_wire.specs.declared.messages.Round.{Round}
use Rattle.proof_wire.specs.declared.messages.LayerMessages.{LayerMessages}
use Rattle.proof_wire.specs.Lists.{round_messages}
use Rattle.gkr_verify.specs.ShortProof.{filled_layer, filled_rounds, state_at_last}
use Rattle.gkr_verify.proofs.FillSteps.{layer_drawn, layer_state, last_has, length-filled, rounds_have}
use Rattle.gkr_verify.proofs.filling.fill_layer.Goals as goal

pub fill_rounds-requires : goal.fill_rounds-requires
fill_rounds-requires g c =
    let source : Source = g.C.Challenges.source in
    let s : List ℕ = g.C.Challenges.state c.args.challenges.now in
    record {
      has = subst (λ (n : ℕ). IsTrue (source.has s n)) (length-filled source s c.args.claim c.args.layer.now.rounds ∙ sym (ap length c.as_slice.ensures))
          (rounds_have source s (filled_layer source s c.args.claim c.args.layer.now) c.requires.has);
    }

pub draw_after-requires : goal.draw_after-requires
draw_after-requires g c =
    let source : Source = g.C.Challenges.source in
    let s : List ℕ = g.C.Challenges.state c.args.challenges.now in
    let rounds = c.in_ok-rounds.ensures.messages ∙ ap (filled_rounds source s c.args.claim) c.as_slice.ensures in
    let state = c.in_ok-rounds.ensures.state ∙ ap (λ (rs : List Round). state_after source s (round_messages rs)) rounds in
    record {
      has = subst (λ (t : List ℕ). IsTrue (source.has t 1)) (sym state) (last_has source s (filled_layer source s c.args.claim c.args.layer.now) c.requires.has);
    }

pub returns-clause-drawn : goal.returns-clause-drawn
returns-clause-drawn g c =
    let source : Source = g.C.Challenges.source in
    let s : List ℕ = g.C.Challenges.state c.args.challenges.now in
    let before : List K = c.args.drawn.now.items in
    let layer : LayerMessages = record { rounds = c.of.result; last = c.of-2.result } in
    let state = c.in_ok-rounds.ensures.state ∙ ap (λ (rs : List Round). state_after source s (round_messages rs)) (sym c.of.ensures) in
    let last = c.deref.ensures.value ∙ sym c.of-2.ensures in
    let taken : source.absorb (g.C.Challenges.state c.fill_rounds.new.challenges) c.deref.result.now ≡ state_at_last source s layer = λ j. source.absorb (state j) (last j) in
    c.in_ok-challenge.ensures.drawn
    ∙ layer_drawn source s layer before c.fill_rounds.new.drawn.items c.in_ok-challenge.challenge
    (c.in_ok-rounds.ensures.drawn ∙ ap (λ (rs : List Round). before ++ draws source s (round_messages rs)) (sym c.of.ensures))
    (c.in_ok-challenge.ensures.value ∙ ap source.draw taken)

pub returns-clause-state : goal.returns-clause-state
returns-clause-state g c =
    let source : Source = g.C.Challenges.source in
    let s : List ℕ = g.C.Challenges.state c.args.challenges.now in
    let layer : LayerMessages = record { rounds = c.of.result; last = c.of-2.result } in
    let state = c.in_ok-rounds.ensures.state ∙ ap (λ (rs : List Round). state_after source s (round_messages rs)) (sym c.of.ensures) in
    let last = c.deref.ensures.value ∙ sym c.of-2.ensures in
    let taken : source.absorb (g.C.Challenges.state c.fill_rounds.new.challenges) c.deref.result.now ≡ state_at_last source s layer = λ j. source.absorb (state j) (last j) in
    layer_state source s layer (g.C.Challenges.state c.draw_after.new.challenges) (c.in_ok-challenge.ensures.state ∙ ap source.after taken)

pub returns-in_err-rounds-clause-messages : goal.returns-in_err-rounds-clause-messages
returns-in_err-rounds-clause-messages g c = search rules

pub returns-in_err-rounds-clause-claim : goal.returns-in_err-rounds-clause-claim
returns-in_err-rounds-clause-claim g c = search rules

pub returns-in_err-rounds-clause-drawn : goal.returns-in_err-rounds-clause-drawn
returns-in_err-rounds-clause-drawn g c = search rules

pub returns-in_err-rounds-clause-state : goal.returns-in_err-rounds-clause-state
returns-in_err-rounds-clause-state g c = search rules

pub returns-in_err-last-clause-messages : goal.returns-in_err-last-clause-messages
returns-in_err-last-clause-messages g c = search rules

pub returns-in_err-last-clause-claim : goal.returns-in_err-last-clause-claim
returns-in_err-last-clause-claim g c = search rules

pub returns-in_err-last-clause-drawn : goal.returns-in_err-last-clause-drawn
returns-in_err-last-clause-drawn g c = search rules

pub returns-in_err-last-clause-state : goal.returns-in_err-last-clause-state
returns-in_err-last-clause-state g c = search rules

pub returns-in_err-challenge-clause-messages : goal.returns-in_err-challenge-clause-messages
returns-in_err-challenge-clause-messages g c = search rules

pub returns-in_err-challenge-clause-claim : goal.returns-in_err-challenge-clause-claim
returns-in_err-challenge-clause-claim g c = search rules

pub returns-in_err-challenge-clause-drawn : goal.returns-in_err-challenge-clause-drawn
returns-in_err-challenge-clause-drawn g c = search rules

pub returns-in_err-challenge-clause-state : goal.returns-in_err-challenge-clause-state
returns-in_err-challenge-clause-state g c = search rules

pub returns-clause-messages : goal.returns-clause-messages
returns-clause-messages g c = search rules

pub returns-clause-claim : goal.returns-clause-claim
returns-clause-claim g c = search rules
