use Rattle.std.proofs.Common.{rules}
use Rattle.round_tables.proofs.open.OpenTables.gathered_from.Goals as goal

pub start-steps-requires-clause-name : goal.start-steps-requires-clause-name
start-steps-requires-clause-name g c = search rules

pub start-steps-requires-clause-parts : goal.start-steps-requires-clause-parts
start-steps-requires-clause-parts g c = search rules

pub start-steps-requires-clause-some : goal.start-steps-requires-clause-some
start-steps-requires-clause-some g c = search rules

pub gather-requires-clause-layer : goal.gather-requires-clause-layer
gather-requires-clause-layer g c = search rules

pub gather-requires-clause-begins : goal.gather-requires-clause-begins
gather-requires-clause-begins g c = search rules

pub invariant_of-result : goal.invariant_of-result
invariant_of-result g c = search rules

pub returns : goal.returns
returns g c = search rules
