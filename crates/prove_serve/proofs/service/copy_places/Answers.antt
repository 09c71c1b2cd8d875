use Rattle.std.proofs.lemmas.Grind.{common_steps}
use Rattle.std.proofs.Common.{arith}
use Rattle.prove_serve.proofs.service.copy_places.Goals as goal

pub loop-job-preserved : goal.loop-job-preserved
loop-job-preserved g c = grind (arith, common_steps)

pub returns : goal.returns
returns g c = grind (arith, common_steps)
