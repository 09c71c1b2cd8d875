use Rattle.std.proofs.lemmas.Grind.{common_steps}
use Rattle.std.proofs.Common.{arith}
use Rattle.proof_two.proofs.encoding.push_layer.Goals as goal

pub returns : goal.returns
returns c = grind (arith, common_steps)
