-- The gates are gathered where the second phase begins
use Rattle.std.proofs.Common.{ℕ, ◌+◌, length, sym, ◌∙◌, ap, rules}
use Rattle.round_tables.proofs.Advances.{same-number}
use Rattle.round_tables.proofs.working.Working.close_middle.Goals as goal

pub returns-clause-steps : goal.returns-clause-steps
returns-clause-steps g c =
    let gates = length c.args.layer.now.gates.now in
    c.gather.ensures.steps ∙ ap (λ (x : ℕ). c.args.steps.now + x) (sym (same-number c.reach-value.new.self.count c.args.layer.now.k gates c.reach-value.ensures.count))

pub reach-value-requires-clause-layer : goal.reach-value-requires-clause-layer
reach-value-requires-clause-layer g c = search rules

pub reach-value-requires-clause-works : goal.reach-value-requires-clause-works
reach-value-requires-clause-works g c = search rules

pub reach-value-requires-clause-folded : goal.reach-value-requires-clause-folded
reach-value-requires-clause-folded g c = search rules

pub reach-value-requires-clause-left : goal.reach-value-requires-clause-left
reach-value-requires-clause-left g c = search rules

pub gather-requires-clause-layer : goal.gather-requires-clause-layer
gather-requires-clause-layer g c = search rules

pub gather-requires-clause-begins : goal.gather-requires-clause-begins
gather-requires-clause-begins g c = search rules

pub returns-clause-works : goal.returns-clause-works
returns-clause-works g c = search rules

pub returns-clause-bound : goal.returns-clause-bound
returns-clause-bound g c = search rules
