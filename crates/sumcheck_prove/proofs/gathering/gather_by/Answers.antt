use Rattle.std.proofs.Common.{rules}
use Rattle.sumcheck_prove.proofs.gathering.gather_by.Goals as goal

pub invariant_of-gather : goal.invariant_of-gather
invariant_of-gather g c = search rules

pub gathered_by-requires-clause-none : goal.gathered_by-requires-clause-none
gathered_by-requires-clause-none g c = search rules

pub gathered_by-requires-clause-rooms : goal.gathered_by-requires-clause-rooms
gathered_by-requires-clause-rooms g c = search rules

pub gathered_by-requires-clause-number : goal.gathered_by-requires-clause-number
gathered_by-requires-clause-number g c = search rules

pub gathered_by-requires-clause-few : goal.gathered_by-requires-clause-few
gathered_by-requires-clause-few g c = search rules

pub invariant_of-gather-in-Err : goal.invariant_of-gather-in-Err
invariant_of-gather-in-Err g c = search rules

pub returns-in-Ok-clause-tables : goal.returns-in-Ok-clause-tables
returns-in-Ok-clause-tables g c = search rules

pub returns-in-Ok-clause-gather : goal.returns-in-Ok-clause-gather
returns-in-Ok-clause-gather g c = search rules

pub returns-in-Err-clause-tables : goal.returns-in-Err-clause-tables
returns-in-Err-clause-tables g c = search rules

pub returns-in-Err-clause-gather : goal.returns-in-Err-clause-gather
returns-in-Err-clause-gather g c = search rules
