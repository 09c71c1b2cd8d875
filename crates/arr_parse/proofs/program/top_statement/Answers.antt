use Rattle.std.proofs.Common.{rules}
use Rattle.arr_parse.proofs.program.top_statement.Goals as goal

pub returns-in_err-value-clause-spelled : goal.returns-in_err-value-clause-spelled
returns-in_err-value-clause-spelled g = search rules

pub returns-in_err-value-clause-shorter : goal.returns-in_err-value-clause-shorter
returns-in_err-value-clause-shorter g = search rules

pub returns-in_err-value-clause-exact : goal.returns-in_err-value-clause-exact
returns-in_err-value-clause-exact g c = search rules

pub returns-in-Some-clause-spelled : goal.returns-in-Some-clause-spelled
returns-in-Some-clause-spelled g = search rules

pub returns-in-Some-clause-shorter : goal.returns-in-Some-clause-shorter
returns-in-Some-clause-shorter g = search rules

pub returns-in-Some-clause-exact : goal.returns-in-Some-clause-exact
returns-in-Some-clause-exact g c = search rules

pub returns-in_err-inner-clause-spelled : goal.returns-in_err-inner-clause-spelled
returns-in_err-inner-clause-spelled g = search rules

pub returns-in_err-inner-clause-shorter : goal.returns-in_err-inner-clause-shorter
returns-in_err-inner-clause-shorter g = search rules

pub returns-in_err-inner-clause-exact : goal.returns-in_err-inner-clause-exact
returns-in_err-inner-clause-exact g c = search rules

pub returns-clause-spelled : goal.returns-clause-spelled
returns-clause-spelled g = search rules

pub returns-clause-shorter : goal.returns-clause-shorter
returns-clause-shorter g = search rules

pub returns-clause-exact : goal.returns-clause-exact
returns-clause-exact g c = search rules
