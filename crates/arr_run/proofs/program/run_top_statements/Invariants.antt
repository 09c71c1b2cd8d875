use Rattle.std.proofs.Common.{◌≡◌, drop}
use Rattle.std.specs.Prelude.{map}
use Rattle.arr_ast.specs.ProgramTree.{top_tree}
use Rattle.arr_scope.specs.Agrees.{each}
use Rattle.arr_run.specs.Program.{after_top}
use Rattle.arr_run.specs.State.{state}
use Rattle.arr_run.specs.Steps.{newest_first}
use Rattle.arr_run.proofs.program.run_top_statements.Given as goal

abbrev pub invariant-each : goal.invariant-each
invariant-each g l =
    let operations = g.M.Machine.operations in
    each (after_top operations (newest_first l.defined.definitions.now)) (map top_tree l.statements) (state l.fn.scope l.fn.counts l.fn.machine)
    ≡ each (after_top operations (newest_first l.defined.definitions.now)) (map top_tree (drop l.statement-index l.statements)) (state l.scope l.counts l.machine)
