use Rattle.std.proofs.lemmas.Grind.{common_steps}
use Rattle.std.proofs.Common.{rules, arith}
use Rattle.arr_parse.proofs.cursor.Cursor.added_sign.Goals as goal

pub same-self : goal.same-self
same-self g c = search rules

pub returns-in_err-token-clause-spelled : goal.returns-in_err-token-clause-spelled
returns-in_err-token-clause-spelled g = search rules

pub returns-in_err-token-clause-shorter : goal.returns-in_err-token-clause-shorter
returns-in_err-token-clause-shorter g = search rules

pub returns-in_err-token-clause-levels : goal.returns-in_err-token-clause-levels
returns-in_err-token-clause-levels g = search rules

pub returns-in_err-token-clause-none : goal.returns-in_err-token-clause-none
returns-in_err-token-clause-none g = search rules

pub returns-in_err-token-clause-terms : goal.returns-in_err-token-clause-terms
returns-in_err-token-clause-terms g = grind (arith, common_steps)

pub returns-in_err-token-clause-index_terms : goal.returns-in_err-token-clause-index_terms
returns-in_err-token-clause-index_terms g = grind (arith, common_steps)

pub invariant_of-self : goal.invariant_of-self
invariant_of-self g = search rules

pub invariant_of-self-in-Minus : goal.invariant_of-self-in-Minus
invariant_of-self-in-Minus g = search rules

pub same-self-in_default : goal.same-self-in_default
same-self-in_default g c = search rules

pub returns-in-Plus-clause-spelled : goal.returns-in-Plus-clause-spelled
returns-in-Plus-clause-spelled g = search rules

pub returns-in-Plus-clause-shorter : goal.returns-in-Plus-clause-shorter
returns-in-Plus-clause-shorter g = search rules

pub returns-in-Plus-clause-source : goal.returns-in-Plus-clause-source
returns-in-Plus-clause-source g = search rules

pub returns-in-Plus-clause-levels : goal.returns-in-Plus-clause-levels
returns-in-Plus-clause-levels g = search rules

pub returns-in-Plus-clause-none : goal.returns-in-Plus-clause-none
returns-in-Plus-clause-none g = search rules

pub returns-in-Plus-clause-terms : goal.returns-in-Plus-clause-terms
returns-in-Plus-clause-terms g c = search rules

pub returns-in-Plus-clause-index_terms : goal.returns-in-Plus-clause-index_terms
returns-in-Plus-clause-index_terms g c = search rules

pub returns-in-Minus-clause-spelled : goal.returns-in-Minus-clause-spelled
returns-in-Minus-clause-spelled g = search rules

pub returns-in-Minus-clause-shorter : goal.returns-in-Minus-clause-shorter
returns-in-Minus-clause-shorter g = search rules

pub returns-in-Minus-clause-source : goal.returns-in-Minus-clause-source
returns-in-Minus-clause-source g = search rules

pub returns-in-Minus-clause-levels : goal.returns-in-Minus-clause-levels
returns-in-Minus-clause-levels g = search rules

pub returns-in-Minus-clause-none : goal.returns-in-Minus-clause-none
returns-in-Minus-clause-none g = search rules

pub returns-in-Minus-clause-terms : goal.returns-in-Minus-clause-terms
returns-in-Minus-clause-terms g c = search rules

pub returns-in-Minus-clause-index_terms : goal.returns-in-Minus-clause-index_terms
returns-in-Minus-clause-index_terms g c = search rules

pub returns-in_default : goal.returns-in_default
returns-in_default g = search rules
