use Rattle.std.proofs.Common.{rules, arith}
use Rattle.std.proofs.lemmas.Grind.{common_steps}
use Rattle.arr_run.proofs.expression.add_terms.Goals as goal

pub returns-in_default-clause-value : goal.returns-in_default-clause-value
returns-in_default-clause-value g c = grind (arith, common_steps)

pub returns-in_default-clause-work : goal.returns-in_default-clause-work
returns-in_default-clause-work g c = search rules

pub returns-in_err-push-clause-value : goal.returns-in_err-push-clause-value
returns-in_err-push-clause-value g c = search rules

pub returns-in_err-push-clause-work : goal.returns-in_err-push-clause-work
returns-in_err-push-clause-work g c = search rules

pub returns-in_err-first-clause-value : goal.returns-in_err-first-clause-value
returns-in_err-first-clause-value g c = search rules

pub returns-in_err-first-clause-work : goal.returns-in_err-first-clause-work
returns-in_err-first-clause-work g c = search rules
