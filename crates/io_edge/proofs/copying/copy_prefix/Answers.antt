use Rattle.std.proofs.lemmas.Grind.{common_steps}
use Rattle.std.proofs.Common.{rules, arith}
use Rattle.io_edge.proofs.copying.copy_prefix.Goals as goal

pub returns-clause-count : goal.returns-clause-count
returns-clause-count c = search rules

pub returns-clause-end : goal.returns-clause-end
returns-clause-end c = grind (arith, common_steps)
