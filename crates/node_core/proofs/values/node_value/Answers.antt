use Rattle.std.proofs.lemmas.Grind.{common_steps}
use Rattle.std.proofs.Common.{rules, arith}
use Rattle.node_core.proofs.values.node_value.Goals as goal

pub returns-in-Input : goal.returns-in-Input
returns-in-Input c = grind (arith, common_steps)

pub returns-in-Operation : goal.returns-in-Operation
returns-in-Operation c = search rules

pub returns-in-Constant : goal.returns-in-Constant
returns-in-Constant c = search rules
