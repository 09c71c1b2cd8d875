use Rattle.std.proofs.Common.{rules, arith}
use Rattle.std.proofs.lemmas.Grind.{common_steps}
use Rattle.arr_scope.proofs.scope.place_among.Goals as goal

pub loop-place-init : goal.loop-place-init
loop-place-init g c = search rules

pub offset_bounds-names-place : goal.offset_bounds-names-place
offset_bounds-names-place g c = search rules

pub bounds-names-place : goal.bounds-names-place
bounds-names-place g c = search rules

pub returns-then-entry-name : goal.returns-then-entry-name
returns-then-entry-name g c = grind (arith, common_steps)

pub loop-place-preserved : goal.loop-place-preserved
loop-place-preserved g c = grind (arith, common_steps)

pub returns : goal.returns
returns g c = grind (arith, common_steps)
