use Rattle.std.proofs.lemmas.Grind.{common_steps}
use Rattle.std.proofs.Common.{rules, arith}
use Rattle.arr_parse.proofs.cursor.Cursor.input_word.Goals as goal

pub same-self : goal.same-self
same-self g c = search rules

pub returns-in_err-token-clause-found : goal.returns-in_err-token-clause-found
returns-in_err-token-clause-found g = search rules

pub returns-in_err-token-clause-levels : goal.returns-in_err-token-clause-levels
returns-in_err-token-clause-levels g = search rules

pub returns-in_err-token-clause-none : goal.returns-in_err-token-clause-none
returns-in_err-token-clause-none g = grind (arith, common_steps)

pub invariant_of-self : goal.invariant_of-self
invariant_of-self g = search rules

pub same-self-in_default : goal.same-self-in_default
same-self-in_default g c = search rules

pub returns-in-Input-clause-found : goal.returns-in-Input-clause-found
returns-in-Input-clause-found g = search rules

pub returns-in-Input-clause-source : goal.returns-in-Input-clause-source
returns-in-Input-clause-source g = search rules

pub returns-in-Input-clause-levels : goal.returns-in-Input-clause-levels
returns-in-Input-clause-levels g = search rules

pub returns-in-Input-clause-none : goal.returns-in-Input-clause-none
returns-in-Input-clause-none g = search rules

pub returns-in_default : goal.returns-in_default
returns-in_default g = search rules
