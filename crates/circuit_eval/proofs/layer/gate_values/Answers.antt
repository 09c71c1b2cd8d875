use Rattle.std.proofs.lemmas.Grind.{common_steps}
use Rattle.std.proofs.Common.{arith}
use Rattle.circuit_eval.proofs.layer.gate_values.Goals as goal

pub returns : goal.returns
returns g c = grind (arith, common_steps)
