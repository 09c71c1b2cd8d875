use Rattle.std.proofs.lemmas.Grind.{common_steps}
use Rattle.std.proofs.Common.{rules, arith}
use Rattle.arr_parse.proofs.input.maybe_dimension.Goals as goal

pub returns-in_default-clause-spelled : goal.returns-in_default-clause-spelled
returns-in_default-clause-spelled g = search rules

pub returns-in_default-clause-first : goal.returns-in_default-clause-first
returns-in_default-clause-first g c = search rules

pub returns-in_default-clause-second : goal.returns-in_default-clause-second
returns-in_default-clause-second g c = search rules

pub returns-in_err-open-clause-spelled : goal.returns-in_err-open-clause-spelled
returns-in_err-open-clause-spelled g = search rules

pub returns-in_err-open-clause-first : goal.returns-in_err-open-clause-first
returns-in_err-open-clause-first g c = search rules

pub returns-in_err-open-clause-second : goal.returns-in_err-open-clause-second
returns-in_err-open-clause-second g c = search rules

pub returns-in_err-dimension-clause-spelled : goal.returns-in_err-dimension-clause-spelled
returns-in_err-dimension-clause-spelled g = search rules

pub returns-in_err-dimension-clause-first : goal.returns-in_err-dimension-clause-first
returns-in_err-dimension-clause-first g c = search rules

pub returns-in_err-dimension-clause-second : goal.returns-in_err-dimension-clause-second
returns-in_err-dimension-clause-second g c = search rules

pub close-requires-clause-separator : goal.close-requires-clause-separator
close-requires-clause-separator g = grind (arith, common_steps)

pub close-requires-clause-open : goal.close-requires-clause-open
close-requires-clause-open g = search rules

pub returns-in_err-close-clause-spelled : goal.returns-in_err-close-clause-spelled
returns-in_err-close-clause-spelled g = search rules

pub returns-in_err-close-clause-first : goal.returns-in_err-close-clause-first
returns-in_err-close-clause-first g c = search rules

pub returns-in_err-close-clause-second : goal.returns-in_err-close-clause-second
returns-in_err-close-clause-second g c = search rules

pub returns-clause-spelled : goal.returns-clause-spelled
returns-clause-spelled g = search rules

pub returns-clause-first : goal.returns-clause-first
returns-clause-first g c = search rules

pub returns-clause-second : goal.returns-clause-second
returns-clause-second g c = search rules
