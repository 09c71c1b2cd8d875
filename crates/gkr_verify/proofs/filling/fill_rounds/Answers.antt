use Rattle.std.proofs.Common.{◌≡◌, ◌+◌, ℕ, List, [], ◌∷◌, ◌++◌, sym, ◌∙◌, ap, rules}
use Rattle.field_ext.specs.Field.{K, k_ops}
use Rattle.field_ext.specs.Polynomial.{value_at}
use Rattle.transcript_fs.specs.Source.{Source}
use Rattle.proof_wire.specs.declared.messages.Round.{Round}
use Rattle.proof_wire.specs.Spelling.{coefficients_of}
use Rattle.gkr_verify.specs.ShortProof.{filled_round}
use Rattle.gkr_verify.proofs.FillSteps.{RoundsFilled, round_filled, round_has}
use Rattle.proof_wire.proofs.api.Apart.{round_apart as round_by_coefficients}
use Rattle.gkr_verify.proofs.filling.fill_rounds.Goals as goal

pub draw_after-requires : goal.draw_after-requires
draw_after-requires g c = record {
  has = round_has g.C.Challenges.source (g.C.Challenges.state c.args.challenges.now) c.args.claim c.args.pairs.now c.args.drawn.now.items c.loop-pair.pair-index (g.C.Challenges.state c.loop-pair.challenges) c.loop-pair.rounds.claim c.loop-pair.made.items c.loop-pair.drawn.items c.loop-pair.invariant.filled
      c.pair-item.result c.loop-pair-test.true c.pair-item.is;
}

pub loop-pair-preserved : goal.loop-pair-preserved
loop-pair-preserved g c =
    let source : Source = g.C.Challenges.source in
    let s0 : List ℕ = g.C.Challenges.state c.args.challenges.now in
    let s : List ℕ = g.C.Challenges.state c.loop-pair.challenges in
    let claim : K = c.loop-pair.rounds.claim in
    let made : List Round = c.loop-pair.made.items in
    let drawn : List K = c.loop-pair.drawn.items in
    let round : Round = filled_round claim c.pair-item.result in
    let same : c.fill_round-coefficients.result ≡ coefficients_of round = c.fill_round-coefficients.ensures.message in
    let state : g.C.Challenges.state c.draw_after.new.challenges ≡ source.after (source.absorb s (coefficients_of round)) =
    c.in_ok-challenge.ensures.state ∙ ap (λ (q : List K). source.after (source.absorb s q)) same in
    let r : c.in_ok-challenge.challenge ≡ source.draw (source.absorb s (coefficients_of round)) =
    c.in_ok-challenge.ensures.value ∙ ap (λ (q : List K). source.draw (source.absorb s q)) same in
    let value : c.bind.new.self.claim ≡ value_at k_ops (coefficients_of round) (source.draw (source.absorb s (coefficients_of round))) =
    c.bind.ensures.claim
    ∙ ap (λ (q : List K). value_at k_ops q c.in_ok-challenge.challenge) (c.fill_round-coefficients.ensures.taken ∙ same)
    ∙ ap (λ (x : K). value_at k_ops (coefficients_of round) x) r in
    let grown : c.push.new.self.items ≡ made ++ round ∷ [] =
    c.in_ok-push.ensures.items ∙ ap (λ (x : Round). made ++ x ∷ []) (round_by_coefficients c.of.result round (c.of.ensures ∙ same)) in
    let behind : c.draw_after.new.drawn.items ≡ drawn ++ source.draw (source.absorb s (coefficients_of round)) ∷ [] =
    c.in_ok-challenge.ensures.drawn ∙ ap (λ (x : K). drawn ++ x ∷ []) r in
    record {
      ready = c.bind.ensures.waiting;
      filled = coe 0 1 (j. RoundsFilled source s0 c.args.claim c.args.pairs.now c.args.drawn.now.items (c.loop-pair.pair-index + 1) (sym state j) (sym value j) (sym grown j) (sym behind j))
          (round_filled source s0 c.args.claim c.args.pairs.now c.args.drawn.now.items c.loop-pair.pair-index s claim made drawn c.loop-pair.invariant.filled c.pair-item.result c.loop-pair-test.true c.pair-item.is);
    }

pub returns-in_err-made-clause-messages : goal.returns-in_err-made-clause-messages
returns-in_err-made-clause-messages g c = search rules

pub returns-in_err-made-clause-drawn : goal.returns-in_err-made-clause-drawn
returns-in_err-made-clause-drawn g c = search rules

pub returns-in_err-made-clause-state : goal.returns-in_err-made-clause-state
returns-in_err-made-clause-state g c = search rules

pub loop-pair-init : goal.loop-pair-init
loop-pair-init g c = search rules

pub offset_bounds-pairs-pair-index : goal.offset_bounds-pairs-pair-index
offset_bounds-pairs-pair-index g c = search rules

pub fill_round-coefficients-requires : goal.fill_round-coefficients-requires
fill_round-coefficients-requires g c = search rules

pub returns-in_err-push-clause-messages : goal.returns-in_err-push-clause-messages
returns-in_err-push-clause-messages g c = search rules

pub returns-in_err-push-clause-drawn : goal.returns-in_err-push-clause-drawn
returns-in_err-push-clause-drawn g c = search rules

pub returns-in_err-push-clause-state : goal.returns-in_err-push-clause-state
returns-in_err-push-clause-state g c = search rules

pub shared_whole_as_slice-draw_after : goal.shared_whole_as_slice-draw_after
shared_whole_as_slice-draw_after g c = search rules

pub returns-in_err-challenge-clause-messages : goal.returns-in_err-challenge-clause-messages
returns-in_err-challenge-clause-messages g c = search rules

pub returns-in_err-challenge-clause-drawn : goal.returns-in_err-challenge-clause-drawn
returns-in_err-challenge-clause-drawn g c = search rules

pub returns-in_err-challenge-clause-state : goal.returns-in_err-challenge-clause-state
returns-in_err-challenge-clause-state g c = search rules

pub bind-requires : goal.bind-requires
bind-requires g c = search rules
