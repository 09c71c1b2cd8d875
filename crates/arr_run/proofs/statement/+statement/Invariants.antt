use Rattle.std.proofs.Common.{◌≡◌, ◌-◌, drop}
use Rattle.std.specs.Prelude.{map}
use Rattle.arr_ast.specs.ExpressionTree.{name_tree}
use Rattle.arr_ast.specs.ProgramTree.{statement_tree}
use Rattle.arr_scope.specs.Agrees.{each}
use Rattle.arr_run.specs.State.{state}
use Rattle.arr_run.specs.Steps.{newest_first}
use Rattle.arr_run.specs.Statement.{after_statement, turns, one_turn}
use Rattle.arr_run.proofs.statement.+statement.Given as goal

abbrev pub invariant-all_turns-each : goal.invariant-all_turns-each
invariant-all_turns-each g l =
    let operations = g.M.Machine.operations in
    let definitions = newest_first l.defined.definitions.now in
    let body = one_turn operations l.at (name_tree l.name) (each (after_statement operations definitions) (map statement_tree l.body)) in
    turns operations (l.end - l.first) l.first body (state l.fn.scope l.fn.counts l.fn.machine)
    ≡ turns operations (l.end - l.turn) l.turn body (state l.scope l.counts l.machine)

abbrev pub invariant-run_all-each : goal.invariant-run_all-each
invariant-run_all-each g l =
    let operations = g.M.Machine.operations in
    let definitions = newest_first l.defined.definitions.now in
    each (after_statement operations definitions) (map statement_tree l.statements) (state l.fn.scope l.fn.counts l.fn.machine)
    ≡ each (after_statement operations definitions) (map statement_tree (drop l.statement-index l.statements)) (state l.scope l.counts l.machine)
