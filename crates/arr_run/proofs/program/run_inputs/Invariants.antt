use Rattle.std.proofs.Common.{◌≡◌, drop}
use Rattle.std.specs.Prelude.{map}
use Rattle.arr_ast.specs.ProgramTree.{input_tree}
use Rattle.arr_scope.specs.Agrees.{each}
use Rattle.arr_run.specs.Program.{after_input}
use Rattle.arr_run.specs.State.{state}
use Rattle.arr_run.proofs.program.run_inputs.Given as goal

abbrev pub invariant-each : goal.invariant-each
invariant-each g l =
    let operations = g.M.Machine.operations in
    each (after_input operations) (map input_tree l.inputs) (state l.fn.scope l.fn.counts l.fn.machine)
    ≡ each (after_input operations) (map input_tree (drop l.input-index l.inputs)) (state l.scope l.counts l.machine)
