-- The gates are gathered where the second phase begins
use Rattle.std.proofs.Common.{◌≡◌, ℕ, ◌+◌, length, ◌∙◌, ap, arith, rules}
use Rattle.round_tables.proofs.Advances.{gates-now, no-gates}
use Rattle.round_tables.proofs.working.Working.close_round.Goals as goal

pub returns-then-self-layer-2-clause-steps : goal.returns-then-self-layer-2-clause-steps
returns-then-self-layer-2-clause-steps g c =
    c.close_middle.ensures.steps ∙ ap (λ (x : ℕ). c.args.steps.now + x) (gates-now c.args.old.value.count c.args.layer.now.k (length c.args.layer.now.gates.now) (omega (arith, c.if-self-layer-2.true, c.requires.folded.others.count)))

pub returns-else-self-layer-2-clause-steps : goal.returns-else-self-layer-2-clause-steps
returns-else-self-layer-2-clause-steps g c =
    let none : c.args.steps.now ≡ c.args.steps.now + 0 = omega arith in
    none ∙ ap (λ (x : ℕ). c.args.steps.now + x) (no-gates c.args.old.value.count c.args.layer.now.k (length c.args.layer.now.gates.now) (λ e. c.if-self-layer-2.false (omega (arith, e, c.requires.folded.others.count))))

pub overflow_add-self : goal.overflow_add-self
overflow_add-self g c = search rules

pub close_left-requires-clause-layer : goal.close_left-requires-clause-layer
close_left-requires-clause-layer g c = search rules

pub close_left-requires-clause-works : goal.close_left-requires-clause-works
close_left-requires-clause-works g c = search rules

pub close_left-requires-clause-folded : goal.close_left-requires-clause-folded
close_left-requires-clause-folded g c = search rules

pub close_left-requires-clause-left : goal.close_left-requires-clause-left
close_left-requires-clause-left g c = search rules

pub overflow_add-self-else-self-layer : goal.overflow_add-self-else-self-layer
overflow_add-self-else-self-layer g c = search rules

pub close_middle-requires-clause-layer : goal.close_middle-requires-clause-layer
close_middle-requires-clause-layer g c = search rules

pub close_middle-requires-clause-works : goal.close_middle-requires-clause-works
close_middle-requires-clause-works g c = search rules

pub close_middle-requires-clause-folded : goal.close_middle-requires-clause-folded
close_middle-requires-clause-folded g c = search rules

pub close_middle-requires-clause-left : goal.close_middle-requires-clause-left
close_middle-requires-clause-left g c = search rules

pub close_right-requires-clause-layer : goal.close_right-requires-clause-layer
close_right-requires-clause-layer g c = search rules

pub close_right-requires-clause-works : goal.close_right-requires-clause-works
close_right-requires-clause-works g c = search rules

pub close_right-requires-clause-folded : goal.close_right-requires-clause-folded
close_right-requires-clause-folded g c = search rules

pub close_right-requires-clause-begun : goal.close_right-requires-clause-begun
close_right-requires-clause-begun g c = search rules

pub close_right-requires-clause-left : goal.close_right-requires-clause-left
close_right-requires-clause-left g c = search rules

pub returns-then-self-layer-clause-works : goal.returns-then-self-layer-clause-works
returns-then-self-layer-clause-works g c = search rules

pub returns-then-self-layer-clause-bound : goal.returns-then-self-layer-clause-bound
returns-then-self-layer-clause-bound g c = search rules

pub returns-then-self-layer-clause-steps : goal.returns-then-self-layer-clause-steps
returns-then-self-layer-clause-steps g c = search rules

pub returns-then-self-layer-clause-kept : goal.returns-then-self-layer-clause-kept
returns-then-self-layer-clause-kept g c = search rules

pub returns-then-self-layer-2-clause-works : goal.returns-then-self-layer-2-clause-works
returns-then-self-layer-2-clause-works g c = search rules

pub returns-then-self-layer-2-clause-bound : goal.returns-then-self-layer-2-clause-bound
returns-then-self-layer-2-clause-bound g c = search rules

pub returns-then-self-layer-2-clause-kept : goal.returns-then-self-layer-2-clause-kept
returns-then-self-layer-2-clause-kept g c = search rules

pub returns-else-self-layer-2-clause-works : goal.returns-else-self-layer-2-clause-works
returns-else-self-layer-2-clause-works g c = search rules

pub returns-else-self-layer-2-clause-bound : goal.returns-else-self-layer-2-clause-bound
returns-else-self-layer-2-clause-bound g c = search rules

pub returns-else-self-layer-2-clause-kept : goal.returns-else-self-layer-2-clause-kept
returns-else-self-layer-2-clause-kept g c = search rules
