use Rattle.std.proofs.lemmas.Grind.{common_steps}
use Rattle.std.proofs.Common.{rules, arith}
use Rattle.arr_parse.proofs.cursor.Cursor.comma.Goals as goal

pub same-self : goal.same-self
same-self g c = search rules

pub returns-in_err-token-clause-spelled : goal.returns-in_err-token-clause-spelled
returns-in_err-token-clause-spelled g = search rules

pub returns-in_err-token-clause-shorter : goal.returns-in_err-token-clause-shorter
returns-in_err-token-clause-shorter g = search rules

pub returns-in_err-token-clause-levels : goal.returns-in_err-token-clause-levels
returns-in_err-token-clause-levels g = search rules

pub returns-in_err-token-clause-none : goal.returns-in_err-token-clause-none
returns-in_err-token-clause-none g = search rules

pub returns-in_err-token-clause-arguments : goal.returns-in_err-token-clause-arguments
returns-in_err-token-clause-arguments g = grind (arith, common_steps)

pub returns-in_err-token-clause-parameters : goal.returns-in_err-token-clause-parameters
returns-in_err-token-clause-parameters g = grind (arith, common_steps)

pub invariant_of-self : goal.invariant_of-self
invariant_of-self g = search rules

pub same-self-in_default : goal.same-self-in_default
same-self-in_default g c = search rules

pub returns-in-Comma-clause-spelled : goal.returns-in-Comma-clause-spelled
returns-in-Comma-clause-spelled g = search rules

pub returns-in-Comma-clause-shorter : goal.returns-in-Comma-clause-shorter
returns-in-Comma-clause-shorter g = search rules

pub returns-in-Comma-clause-source : goal.returns-in-Comma-clause-source
returns-in-Comma-clause-source g = search rules

pub returns-in-Comma-clause-levels : goal.returns-in-Comma-clause-levels
returns-in-Comma-clause-levels g = search rules

pub returns-in-Comma-clause-none : goal.returns-in-Comma-clause-none
returns-in-Comma-clause-none g = search rules

pub returns-in-Comma-clause-arguments : goal.returns-in-Comma-clause-arguments
returns-in-Comma-clause-arguments g c = search rules

pub returns-in-Comma-clause-parameters : goal.returns-in-Comma-clause-parameters
returns-in-Comma-clause-parameters g c = search rules

pub returns-in_default : goal.returns-in_default
returns-in_default g = search rules
