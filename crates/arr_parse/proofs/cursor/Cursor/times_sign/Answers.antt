use Rattle.std.proofs.lemmas.Grind.{common_steps}
use Rattle.std.proofs.Common.{rules, arith}
use Rattle.arr_parse.proofs.cursor.Cursor.times_sign.Goals as goal

pub same-self : goal.same-self
same-self g c = search rules

pub returns-in_err-token-clause-spelled : goal.returns-in_err-token-clause-spelled
returns-in_err-token-clause-spelled g = search rules

pub returns-in_err-token-clause-shorter : goal.returns-in_err-token-clause-shorter
returns-in_err-token-clause-shorter g = search rules

pub returns-in_err-token-clause-levels : goal.returns-in_err-token-clause-levels
returns-in_err-token-clause-levels g = search rules

pub returns-in_err-token-clause-none : goal.returns-in_err-token-clause-none
returns-in_err-token-clause-none g = search rules

pub returns-in_err-token-clause-factors : goal.returns-in_err-token-clause-factors
returns-in_err-token-clause-factors g = grind (arith, common_steps)

pub returns-in_err-token-clause-index_factors : goal.returns-in_err-token-clause-index_factors
returns-in_err-token-clause-index_factors g = grind (arith, common_steps)

pub invariant_of-self : goal.invariant_of-self
invariant_of-self g = search rules

pub same-self-in_default : goal.same-self-in_default
same-self-in_default g c = search rules

pub returns-in-Star-clause-spelled : goal.returns-in-Star-clause-spelled
returns-in-Star-clause-spelled g = search rules

pub returns-in-Star-clause-shorter : goal.returns-in-Star-clause-shorter
returns-in-Star-clause-shorter g = search rules

pub returns-in-Star-clause-source : goal.returns-in-Star-clause-source
returns-in-Star-clause-source g = search rules

pub returns-in-Star-clause-levels : goal.returns-in-Star-clause-levels
returns-in-Star-clause-levels g = grind (arith, common_steps)

pub returns-in-Star-clause-none : goal.returns-in-Star-clause-none
returns-in-Star-clause-none g = search rules

pub returns-in-Star-clause-factors : goal.returns-in-Star-clause-factors
returns-in-Star-clause-factors g c = search rules

pub returns-in-Star-clause-index_factors : goal.returns-in-Star-clause-index_factors
returns-in-Star-clause-index_factors g c = search rules

pub returns-in_default : goal.returns-in_default
returns-in_default g = search rules
