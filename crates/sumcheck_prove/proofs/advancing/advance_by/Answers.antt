use Rattle.std.proofs.Common.{rules}
use Rattle.sumcheck_prove.proofs.advancing.advance_by.Goals as goal

pub ends_first-requires : goal.ends_first-requires
ends_first-requires g c = search rules

pub bind_open-requires-clause-here : goal.bind_open-requires-clause-here
bind_open-requires-clause-here g c = search rules

pub bind_open-requires-clause-last : goal.bind_open-requires-clause-last
bind_open-requires-clause-last g c = search rules

pub gather_by-tables-requires : goal.gather_by-tables-requires
gather_by-tables-requires g c = search rules

pub returns-then-ends_first-clause-bound : goal.returns-then-ends_first-clause-bound
returns-then-ends_first-clause-bound g c = search rules

pub returns-then-ends_first-clause-jobs : goal.returns-then-ends_first-clause-jobs
returns-then-ends_first-clause-jobs g c = search rules

pub returns-then-ends_first-clause-message : goal.returns-then-ends_first-clause-message
returns-then-ends_first-clause-message g c = search rules

pub returns-then-ends_first-clause-gather : goal.returns-then-ends_first-clause-gather
returns-then-ends_first-clause-gather g c = search rules

pub bind_by-jobs-requires-clause-here : goal.bind_by-jobs-requires-clause-here
bind_by-jobs-requires-clause-here g c = search rules

pub bind_by-jobs-requires-clause-left : goal.bind_by-jobs-requires-clause-left
bind_by-jobs-requires-clause-left g c = search rules

pub returns-clause-bound : goal.returns-clause-bound
returns-clause-bound g c = search rules

pub returns-clause-jobs : goal.returns-clause-jobs
returns-clause-jobs g c = search rules

pub returns-clause-message : goal.returns-clause-message
returns-clause-message g c = search rules

pub returns-clause-gather : goal.returns-clause-gather
returns-clause-gather g c = search rules
