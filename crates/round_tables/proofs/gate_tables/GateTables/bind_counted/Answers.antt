use Rattle.std.proofs.Common.{rules}
use Rattle.round_tables.proofs.gate_tables.GateTables.bind_counted.Goals as goal

pub bind-requires-clause-layer : goal.bind-requires-clause-layer
bind-requires-clause-layer g c = search rules

pub bind-requires-clause-works : goal.bind-requires-clause-works
bind-requires-clause-works g c = search rules

pub bind-requires-clause-left : goal.bind-requires-clause-left
bind-requires-clause-left g c = search rules

pub invariant_of-self : goal.invariant_of-self
invariant_of-self g c = search rules

pub returns-clause-bound : goal.returns-clause-bound
returns-clause-bound g c = search rules

pub returns-clause-steps : goal.returns-clause-steps
returns-clause-steps g c = search rules
