use Rattle.std.proofs.Common.{rules, arith}
use Rattle.std.proofs.lemmas.Grind.{common_steps}
use Rattle.round_tables.proofs.working.Working.fold.Goals as goal

pub fold_parts-requires : goal.fold_parts-requires
fold_parts-requires g c = search rules

pub fold_parts-requires-else-self : goal.fold_parts-requires-else-self
fold_parts-requires-else-self g c = search rules

pub returns-then-self-clause-folded : goal.returns-then-self-clause-folded
returns-then-self-clause-folded g c = grind (arith, common_steps)

pub returns-then-self-clause-steps : goal.returns-then-self-clause-steps
returns-then-self-clause-steps g c = search rules

pub returns-else-self-clause-folded : goal.returns-else-self-clause-folded
returns-else-self-clause-folded g c = grind (arith, common_steps)

pub returns-else-self-clause-steps : goal.returns-else-self-clause-steps
returns-else-self-clause-steps g c = search rules
