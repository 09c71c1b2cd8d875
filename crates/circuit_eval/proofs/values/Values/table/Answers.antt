use Rattle.std.proofs.lemmas.Grind.{common_steps}
use Rattle.std.proofs.Common.{arith}
use Rattle.circuit_eval.proofs.values.Values.table.Goals as goal

pub returns : goal.returns
returns c = grind (arith, common_steps)
