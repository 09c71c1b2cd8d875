use Rattle.std.proofs.lemmas.Grind.{common_steps}
use Rattle.std.proofs.Common.{arith}
use Rattle.arr_lower.proofs.operation.scaled.Goals as goal

pub each-preserved : goal.each-preserved
each-preserved c = grind (arith, common_steps)
