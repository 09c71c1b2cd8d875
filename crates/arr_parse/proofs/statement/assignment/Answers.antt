use Rattle.std.proofs.lemmas.Grind.{common_steps}
use Rattle.std.proofs.Common.{rules, arith}
use Rattle.arr_parse.proofs.statement.assignment.Goals as goal

pub returns-in_err-indices-clause-spelled : goal.returns-in_err-indices-clause-spelled
returns-in_err-indices-clause-spelled g = search rules

pub returns-in_err-indices-clause-exact : goal.returns-in_err-indices-clause-exact
returns-in_err-indices-clause-exact g c = search rules

pub returns-in_err-value-clause-spelled : goal.returns-in_err-value-clause-spelled
returns-in_err-value-clause-spelled g = search rules

pub returns-in_err-value-clause-exact : goal.returns-in_err-value-clause-exact
returns-in_err-value-clause-exact g c = search rules

pub returns-in_err-assigned-clause-spelled : goal.returns-in_err-assigned-clause-spelled
returns-in_err-assigned-clause-spelled g = search rules

pub returns-in_err-assigned-clause-exact : goal.returns-in_err-assigned-clause-exact
returns-in_err-assigned-clause-exact g c = search rules

pub returns-clause-spelled : goal.returns-clause-spelled
returns-clause-spelled g = grind (arith, common_steps)

pub returns-clause-exact : goal.returns-clause-exact
returns-clause-exact g c = search rules
