use Rattle.std.proofs.Common.{◌≡◌, [], drop, take}
use Rattle.std.specs.Prelude.{map}
use Rattle.arr_ast.specs.ProgramTree.{definition_tree}
use Rattle.arr_run.specs.Definitions.{after_definitions}
use Rattle.arr_run.specs.State.{state}
use Rattle.arr_run.specs.Steps.{newest_first}
use Rattle.arr_run.proofs.program.run_definitions.Given as goal

abbrev pub invariant-each : goal.invariant-each
invariant-each g l = (kept : g.row.M.Denot) →
    after_definitions [] (map definition_tree l.definitions) (state l.scope l.fn.counts kept)
    ≡ after_definitions (newest_first (take l.place l.definitions)) (map definition_tree (drop l.place l.definitions)) (state l.scope l.counts kept)
