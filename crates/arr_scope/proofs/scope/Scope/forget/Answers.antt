use Rattle.std.proofs.lemmas.Grind.{common_steps}
use Rattle.std.proofs.Common.{rules, arith}
use Rattle.arr_scope.proofs.scope.Scope.forget.Goals as goal

pub loop-self-init : goal.loop-self-init
loop-self-init g c = search rules

pub same-self : goal.same-self
same-self g c = search rules

pub same-self-in-loop-self : goal.same-self-in-loop-self
same-self-in-loop-self g c = search rules

pub forget_last-requires : goal.forget_last-requires
forget_last-requires g c = search rules

pub loop-self-smaller : goal.loop-self-smaller
loop-self-smaller g c = search rules

pub loop-self-preserved : goal.loop-self-preserved
loop-self-preserved g c = grind (arith, common_steps)

pub returns : goal.returns
returns g c = grind (arith, common_steps)
