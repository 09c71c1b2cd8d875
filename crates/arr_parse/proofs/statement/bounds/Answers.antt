use Rattle.std.proofs.lemmas.Grind.{common_steps}
use Rattle.std.proofs.Common.{rules, arith}
use Rattle.arr_parse.proofs.statement.bounds.Goals as goal

pub take-requires : goal.take-requires
take-requires g = grind (arith, common_steps)

pub returns-in_err-take-clause-spelled : goal.returns-in_err-take-clause-spelled
returns-in_err-take-clause-spelled g = search rules

pub returns-in_err-take-clause-exact : goal.returns-in_err-take-clause-exact
returns-in_err-take-clause-exact g c = search rules

pub returns-in_err-low-clause-spelled : goal.returns-in_err-low-clause-spelled
returns-in_err-low-clause-spelled g = search rules

pub returns-in_err-low-clause-exact : goal.returns-in_err-low-clause-exact
returns-in_err-low-clause-exact g c = search rules

pub take-requires-2 : goal.take-requires-2
take-requires-2 g = grind (arith, common_steps)

pub returns-in_err-take-2-clause-spelled : goal.returns-in_err-take-2-clause-spelled
returns-in_err-take-2-clause-spelled g = search rules

pub returns-in_err-take-2-clause-exact : goal.returns-in_err-take-2-clause-exact
returns-in_err-take-2-clause-exact g c = search rules

pub returns-in_err-high-clause-spelled : goal.returns-in_err-high-clause-spelled
returns-in_err-high-clause-spelled g = search rules

pub returns-in_err-high-clause-exact : goal.returns-in_err-high-clause-exact
returns-in_err-high-clause-exact g c = search rules

pub returns-clause-spelled : goal.returns-clause-spelled
returns-clause-spelled g = grind (arith, common_steps)

pub returns-clause-exact : goal.returns-clause-exact
returns-clause-exact g c = search rules
