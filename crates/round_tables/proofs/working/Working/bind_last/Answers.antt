use Rattle.std.proofs.Common.{rules}
use Rattle.round_tables.proofs.working.Working.bind_last.Goals as goal

pub fold_round-requires-clause-layer : goal.fold_round-requires-clause-layer
fold_round-requires-clause-layer g c = search rules

pub fold_round-requires-clause-works : goal.fold_round-requires-clause-works
fold_round-requires-clause-works g c = search rules

pub fold_round-requires-clause-left : goal.fold_round-requires-clause-left
fold_round-requires-clause-left g c = search rules

pub reach-requires-clause-layer : goal.reach-requires-clause-layer
reach-requires-clause-layer g c = search rules

pub reach-requires-clause-works : goal.reach-requires-clause-works
reach-requires-clause-works g c = search rules

pub reach-requires-clause-folded : goal.reach-requires-clause-folded
reach-requires-clause-folded g c = search rules

pub reach-requires-clause-left : goal.reach-requires-clause-left
reach-requires-clause-left g c = search rules

pub returns-clause-begins : goal.returns-clause-begins
returns-clause-begins g c = search rules

pub returns-clause-bound : goal.returns-clause-bound
returns-clause-bound g c = search rules
