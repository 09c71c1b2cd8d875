use Rattle.std.proofs.Common.{◌≡◌, ◌+◌, ◌*◌, length}
use Rattle.arr_ast.specs.ExpressionTree.{expression_tree}
use Rattle.arr_run.specs.Expression.{value_of}
use Rattle.arr_run.specs.Steps.{calls_of}
use Rattle.arr_run.specs.Tasks.{next_with}
use Rattle.arr_run.specs.Work.{tasks_work, next_work}
use Rattle.arr_run.proofs.expression.+expression.Given as goal

abbrev pub invariant-value-each : goal.invariant-value-each
invariant-value-each g l =
    let operations = g.M.Machine.operations in
    value_of operations (calls_of operations l.defined.definitions.now) (expression_tree l.expression) l.scope l.fn.counts l.fn.machine
    ≡ next_with operations l.defined.definitions.now l.scope l.next l.tasks.items l.counts l.machine

abbrev pub decreases-value-each : goal.decreases-value-each
decreases-value-each g l = next_work l.next + tasks_work l.tasks.items

-- fewer definitions may be called in a body
abbrev pub decreases-body_value : goal.decreases-body_value
decreases-body_value g l = 5 * length l.defined.now.definitions.now + 4

abbrev pub decreases-value : goal.decreases-value
decreases-value g l = 5 * length l.defined.now.definitions.now + 3

abbrev pub decreases-go_on : goal.decreases-go_on
decreases-go_on g l = 5 * length l.defined.now.definitions.now + 2

abbrev pub decreases-pass : goal.decreases-pass
decreases-pass g l = 5 * length l.defined.now.definitions.now + 1

abbrev pub decreases-call : goal.decreases-call
decreases-call g l = 5 * length l.defined.now.definitions.now
