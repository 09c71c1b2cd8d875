use Rattle.std.proofs.lemmas.Grind.{common_steps}
use Rattle.std.proofs.Common.{rules, arith}
use Rattle.arr_parse.proofs.cursor.Cursor.definition_word.Goals as goal

pub same-self : goal.same-self
same-self g c = search rules

pub returns-in_err-token-clause-found : goal.returns-in_err-token-clause-found
returns-in_err-token-clause-found g = search rules

pub returns-in_err-token-clause-levels : goal.returns-in_err-token-clause-levels
returns-in_err-token-clause-levels g = search rules

pub returns-in_err-token-clause-due : goal.returns-in_err-token-clause-due
returns-in_err-token-clause-due g = search rules

pub returns-in_err-token-clause-none : goal.returns-in_err-token-clause-none
returns-in_err-token-clause-none g = grind (arith, common_steps)

pub invariant_of-self : goal.invariant_of-self
invariant_of-self g = search rules

pub same-self-in_default : goal.same-self-in_default
same-self-in_default g c = search rules

pub same-self-in_default-2 : goal.same-self-in_default-2
same-self-in_default-2 g c = search rules

pub returns-in-Two-Def-clause-found : goal.returns-in-Two-Def-clause-found
returns-in-Two-Def-clause-found g = search rules

pub returns-in-Two-Def-clause-source : goal.returns-in-Two-Def-clause-source
returns-in-Two-Def-clause-source g = search rules

pub returns-in-Two-Def-clause-levels : goal.returns-in-Two-Def-clause-levels
returns-in-Two-Def-clause-levels g = search rules

pub returns-in-Two-Def-clause-due : goal.returns-in-Two-Def-clause-due
returns-in-Two-Def-clause-due g c = search rules

pub returns-in-Two-Def-clause-none : goal.returns-in-Two-Def-clause-none
returns-in-Two-Def-clause-none g = search rules

pub returns-in_default-clause-found : goal.returns-in_default-clause-found
returns-in_default-clause-found g = search rules

pub returns-in_default-clause-levels : goal.returns-in_default-clause-levels
returns-in_default-clause-levels g = search rules

pub returns-in_default-clause-due : goal.returns-in_default-clause-due
returns-in_default-clause-due g = search rules

pub returns-in_default-clause-none : goal.returns-in_default-clause-none
returns-in_default-clause-none g = search rules
