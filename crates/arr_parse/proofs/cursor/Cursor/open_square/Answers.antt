use Rattle.std.proofs.lemmas.Grind.{common_steps}
use Rattle.std.proofs.Common.{rules, arith}
use Rattle.arr_parse.proofs.cursor.Cursor.open_square.Goals as goal

pub same-self : goal.same-self
same-self g c = search rules

pub returns-in_err-token-clause-found : goal.returns-in_err-token-clause-found
returns-in_err-token-clause-found g = search rules

pub returns-in_err-token-clause-levels : goal.returns-in_err-token-clause-levels
returns-in_err-token-clause-levels g = search rules

pub returns-in_err-token-clause-none : goal.returns-in_err-token-clause-none
returns-in_err-token-clause-none g = search rules

pub returns-in_err-token-clause-no_index : goal.returns-in_err-token-clause-no_index
returns-in_err-token-clause-no_index g = grind (arith, common_steps)

pub returns-in_err-token-clause-no_second_index : goal.returns-in_err-token-clause-no_second_index
returns-in_err-token-clause-no_second_index g = grind (arith, common_steps)

pub returns-in_err-token-clause-no_dimension : goal.returns-in_err-token-clause-no_dimension
returns-in_err-token-clause-no_dimension g = grind (arith, common_steps)

pub returns-in_err-token-clause-no_second_dimension : goal.returns-in_err-token-clause-no_second_dimension
returns-in_err-token-clause-no_second_dimension g = grind (arith, common_steps)

pub invariant_of-self : goal.invariant_of-self
invariant_of-self g = search rules

pub same-self-in_default : goal.same-self-in_default
same-self-in_default g c = search rules

pub returns-in-OpenSquare-clause-found : goal.returns-in-OpenSquare-clause-found
returns-in-OpenSquare-clause-found g = search rules

pub returns-in-OpenSquare-clause-source : goal.returns-in-OpenSquare-clause-source
returns-in-OpenSquare-clause-source g = search rules

pub returns-in-OpenSquare-clause-levels : goal.returns-in-OpenSquare-clause-levels
returns-in-OpenSquare-clause-levels g = search rules

pub returns-in-OpenSquare-clause-none : goal.returns-in-OpenSquare-clause-none
returns-in-OpenSquare-clause-none g = search rules

pub returns-in-OpenSquare-clause-no_index : goal.returns-in-OpenSquare-clause-no_index
returns-in-OpenSquare-clause-no_index g = search rules

pub returns-in-OpenSquare-clause-no_second_index : goal.returns-in-OpenSquare-clause-no_second_index
returns-in-OpenSquare-clause-no_second_index g = search rules

pub returns-in-OpenSquare-clause-no_dimension : goal.returns-in-OpenSquare-clause-no_dimension
returns-in-OpenSquare-clause-no_dimension g = search rules

pub returns-in-OpenSquare-clause-no_second_dimension : goal.returns-in-OpenSquare-clause-no_second_dimension
returns-in-OpenSquare-clause-no_second_dimension g = search rules

pub returns-in_default : goal.returns-in_default
returns-in_default g = search rules
