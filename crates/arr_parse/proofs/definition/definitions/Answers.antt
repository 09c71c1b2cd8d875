use Rattle.std.proofs.lemmas.Grind.{common_steps}
use Rattle.std.proofs.Common.{rules, arith}
use Rattle.arr_parse.proofs.definition.definitions.Goals as goal

pub each-init : goal.each-init
each-init g = search rules

pub returns-in_err-definition-clause-spelled : goal.returns-in_err-definition-clause-spelled
returns-in_err-definition-clause-spelled g = search rules

pub returns-in_err-definition-clause-exact : goal.returns-in_err-definition-clause-exact
returns-in_err-definition-clause-exact g = search rules

pub each-smaller : goal.each-smaller
each-smaller g = search rules

pub each-preserved : goal.each-preserved
each-preserved g = grind (arith, common_steps)

pub returns-in_err-push-clause-spelled : goal.returns-in_err-push-clause-spelled
returns-in_err-push-clause-spelled g = search rules

pub returns-in_err-push-clause-exact : goal.returns-in_err-push-clause-exact
returns-in_err-push-clause-exact g = search rules

pub returns-clause-spelled : goal.returns-clause-spelled
returns-clause-spelled g = search rules

pub returns-clause-exact : goal.returns-clause-exact
returns-clause-exact g = grind (arith, common_steps)
