use Rattle.std.proofs.Common.{rules, arith}
use Rattle.std.proofs.lemmas.Grind.{common_steps}
use Rattle.chunk_board.proofs.slots.vacant.Goals as goal

pub returns-in_err-slots : goal.returns-in_err-slots
returns-in_err-slots g c = search rules

pub loop-init : goal.loop-init
loop-init g c = search rules

pub returns-in_err-push : goal.returns-in_err-push
returns-in_err-push g c = grind (arith, common_steps)

pub loop-preserved : goal.loop-preserved
loop-preserved g c = grind (arith, common_steps)

pub returns : goal.returns
returns g c = search rules
