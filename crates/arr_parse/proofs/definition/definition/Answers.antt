use Rattle.std.proofs.lemmas.Grind.{common_steps}
use Rattle.std.proofs.Common.{rules, arith}
use Rattle.arr_parse.proofs.definition.definition.Goals as goal

pub returns-in_err-name-clause-spelled : goal.returns-in_err-name-clause-spelled
returns-in_err-name-clause-spelled g = search rules

pub returns-in_err-name-clause-exact : goal.returns-in_err-name-clause-exact
returns-in_err-name-clause-exact g c = search rules

pub returns-in_err-parenthesis-clause-spelled : goal.returns-in_err-parenthesis-clause-spelled
returns-in_err-parenthesis-clause-spelled g = search rules

pub returns-in_err-parenthesis-clause-exact : goal.returns-in_err-parenthesis-clause-exact
returns-in_err-parenthesis-clause-exact g c = search rules

pub returns-in_err-body-clause-spelled : goal.returns-in_err-body-clause-spelled
returns-in_err-body-clause-spelled g = search rules

pub returns-in_err-body-clause-exact : goal.returns-in_err-body-clause-exact
returns-in_err-body-clause-exact g c = search rules

pub returns-clause-spelled : goal.returns-clause-spelled
returns-clause-spelled g = grind (arith, common_steps)

pub returns-clause-exact : goal.returns-clause-exact
returns-clause-exact g c = search rules
