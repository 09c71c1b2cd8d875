use Rattle.std.proofs.Common.{rules, arith}
use Rattle.std.proofs.lemmas.Grind.{common_steps}
use Rattle.layer_compile.proofs.chains.linked.Goals as goal

pub overflow_cast-many : goal.overflow_cast-many
overflow_cast-many g = search rules

pub overflow_add-many : goal.overflow_add-many
overflow_add-many g = search rules

pub returns-in_err-first-clause-linked : goal.returns-in_err-first-clause-linked
returns-in_err-first-clause-linked g = search rules

pub returns-in_err-first-clause-firsts : goal.returns-in_err-first-clause-firsts
returns-in_err-first-clause-firsts g = search rules

pub returns-in_err-first-clause-nexts : goal.returns-in_err-first-clause-nexts
returns-in_err-first-clause-nexts g = search rules

pub overflow_cast-many-2 : goal.overflow_cast-many-2
overflow_cast-many-2 g = search rules

pub returns-in_err-next-clause-linked : goal.returns-in_err-next-clause-linked
returns-in_err-next-clause-linked g = search rules

pub returns-in_err-next-clause-firsts : goal.returns-in_err-next-clause-firsts
returns-in_err-next-clause-firsts g = search rules

pub returns-in_err-next-clause-nexts : goal.returns-in_err-next-clause-nexts
returns-in_err-next-clause-nexts g = search rules

pub link-requires-clause-few : goal.link-requires-clause-few
link-requires-clause-few g = search rules

pub link-requires-clause-low : goal.link-requires-clause-low
link-requires-clause-low g c = search rules

pub link-requires-clause-none : goal.link-requires-clause-none
link-requires-clause-none g c = grind (arith, common_steps)

pub returns-clause-linked : goal.returns-clause-linked
returns-clause-linked g = grind (arith, common_steps)
