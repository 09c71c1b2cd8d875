use Rattle.std.proofs.lemmas.Grind.{common_steps}
use Rattle.std.proofs.Common.{rules, arith}
use Rattle.arr_run.proofs.program.run_top_statements.Goals as goal

pub each-init : goal.each-init
each-init g c = search rules

pub offset_bounds-statements-statement-index : goal.offset_bounds-statements-statement-index
offset_bounds-statements-statement-index g c = search rules

pub returns-in_err-run_top_statement : goal.returns-in_err-run_top_statement
returns-in_err-run_top_statement g c = grind (arith, common_steps)

pub each-preserved : goal.each-preserved
each-preserved g c = grind (arith, common_steps)

pub returns : goal.returns
returns g c = grind (arith, common_steps)
