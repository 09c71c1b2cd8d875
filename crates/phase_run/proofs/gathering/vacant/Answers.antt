use Rattle.std.proofs.Common.{rules, arith}
use Rattle.std.proofs.lemmas.Grind.{common_steps}
use Rattle.phase_run.proofs.gathering.vacant.Goals as goal

pub loop-init : goal.loop-init
loop-init g c = search rules

pub returns-in_err-push : goal.returns-in_err-push
returns-in_err-push g c = search rules

pub loop-preserved : goal.loop-preserved
loop-preserved g c = grind (arith, common_steps)

pub returns : goal.returns
returns g c = search rules
