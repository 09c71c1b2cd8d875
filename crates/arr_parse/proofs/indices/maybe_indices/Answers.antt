use Rattle.std.proofs.lemmas.Grind.{common_steps}
use Rattle.std.proofs.Common.{rules, arith}
use Rattle.arr_parse.proofs.indices.maybe_indices.Goals as goal

pub returns-in_err-first-clause-spelled : goal.returns-in_err-first-clause-spelled
returns-in_err-first-clause-spelled g = search rules

pub returns-in_err-first-clause-exact : goal.returns-in_err-first-clause-exact
returns-in_err-first-clause-exact g c = search rules

pub returns-in_default-clause-spelled : goal.returns-in_default-clause-spelled
returns-in_default-clause-spelled g = search rules

pub returns-in_default-clause-exact : goal.returns-in_default-clause-exact
returns-in_default-clause-exact g c = search rules

pub returns-in_err-second-clause-spelled : goal.returns-in_err-second-clause-spelled
returns-in_err-second-clause-spelled g = search rules

pub returns-in_err-second-clause-exact : goal.returns-in_err-second-clause-exact
returns-in_err-second-clause-exact g c = search rules

pub returns-clause-spelled : goal.returns-clause-spelled
returns-clause-spelled g = grind (arith, common_steps)

pub returns-clause-exact : goal.returns-clause-exact
returns-clause-exact g c = search rules
