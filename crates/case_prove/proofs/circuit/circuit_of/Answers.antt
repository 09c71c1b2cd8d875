use Rattle.std.proofs.Common.{rules}
use Rattle.case_prove.proofs.circuit.circuit_of.Goals as goal

pub returns-in-Err-clause-refused : goal.returns-in-Err-clause-refused
returns-in-Err-clause-refused c = search rules

pub returns-then-have-need-clause-refused : goal.returns-then-have-need-clause-refused
returns-then-have-need-clause-refused c = search rules

pub returns-clause-compiled : goal.returns-clause-compiled
returns-clause-compiled c = search rules

pub returns-clause-counted : goal.returns-clause-counted
returns-clause-counted c = search rules
