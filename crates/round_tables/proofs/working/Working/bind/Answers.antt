-- The steps of folding, and those of gathering
use Rattle.std.proofs.Common.{ℕ, ◌+◌, ◌-◌, ◌*◌, ◌^◌, length, ◌∙◌, ap, add_assoc, if◌then◌else◌, ◌==◌, rules}
use Rattle.round_tables.specs.LayerSum.{left_in_phase}
use Rattle.round_tables.specs.declared.working.Working.{Working}
use Rattle.round_tables.proofs.working.Working.bind.Goals as goal

pub returns-clause-steps : goal.returns-clause-steps
returns-clause-steps g c =
    let w = c.args.self.now in
    let gates : Working → ℕ = λ w. if w.count + 1 == c.args.layer.now.k then length c.args.layer.now.gates.now else 0 in
    c.close_round.ensures.steps
    ∙ (λ i. c.fold_round.new.steps + gates (c.of-old.ensures i))
    ∙ ap (λ (x : ℕ). x + gates w) c.fold_round.ensures.steps
    ∙ add_assoc c.args.steps.now (3 * 2 ^ (left_in_phase c.args.layer.now.k w.count - 1)) (gates w)

pub fold_round-requires-clause-layer : goal.fold_round-requires-clause-layer
fold_round-requires-clause-layer g c = search rules

pub fold_round-requires-clause-works : goal.fold_round-requires-clause-works
fold_round-requires-clause-works g c = search rules

pub fold_round-requires-clause-left : goal.fold_round-requires-clause-left
fold_round-requires-clause-left g c = search rules

pub close_round-requires-clause-layer : goal.close_round-requires-clause-layer
close_round-requires-clause-layer g c = search rules

pub close_round-requires-clause-works : goal.close_round-requires-clause-works
close_round-requires-clause-works g c = search rules

pub close_round-requires-clause-folded : goal.close_round-requires-clause-folded
close_round-requires-clause-folded g c = search rules

pub close_round-requires-clause-left : goal.close_round-requires-clause-left
close_round-requires-clause-left g c = search rules

pub returns-clause-works : goal.returns-clause-works
returns-clause-works g c = search rules

pub returns-clause-bound : goal.returns-clause-bound
returns-clause-bound g c = search rules
