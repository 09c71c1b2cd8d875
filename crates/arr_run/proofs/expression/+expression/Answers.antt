use Rattle.std.proofs.lemmas.Grind.{common_steps}
use Rattle.std.proofs.Common.{ap, ◌∙◌, rules, arith}
use Rattle.arr_ast.specs.ExpressionTree.{expression_tree}
use Rattle.arr_run.specs.declared.task.Task.TheVariants.{Argument}
use Rattle.arr_scope.specs.Agrees.{◌>>=◌}
use Rattle.arr_run.specs.Expression.{with_argument}
use Rattle.arr_run.specs.Steps.{calls_of, argument_values}
use Rattle.arr_run.specs.Tasks.{call_at, arguments_with}
use Rattle.arr_run.proofs.Waiting.{argument-begins}
use Rattle.arr_run.proofs.expression.+expression.Goals as goal

pub pass-returns-clause-value : goal.pass-returns-clause-value
pass-returns-clause-value g t c =
    let operations = g.M.Machine.operations in
    let definitions = c.args.defined.now.definitions.now in
    let names = c.args.scope.now in
    let tasks = c.args.tasks.now.items in
    let further = c.in-Some.further in
    let passed = with_argument c.args.passed.items (c.args.found.0, c.args.found.1, c.args.counts.now, c.args.machine.now) in
    rw (ap (λ further. arguments_with operations definitions names c.args.at c.args.place further passed tasks) c.in-Some.ensures.cases.0
    ∙ argument-begins operations definitions names c.args.at c.args.place (expression_tree c.in-Some.argument.now) further.now passed tasks (Argument c.args.at c.args.place c.push.new.self further)
    (λ found i. argument_values operations (calls_of operations definitions) further.now names (with_argument (c.in_ok-push.ensures.items i) found) >>= call_at operations definitions c.args.at c.args.place))
    (c.begin_operand.ensures.value c.args.counts.now c.args.machine.now)

pub body_value-value-requires : goal.body_value-value-requires
body_value-value-requires g c = search rules

pub body_value-returns-in_err-shape : goal.body_value-returns-in_err-shape
body_value-returns-in_err-shape g c = search rules

pub body_value-returns : goal.body_value-returns
body_value-returns g c = search rules

pub call-get-requires : goal.call-get-requires
call-get-requires g c = search rules

pub call-returns-in_default : goal.call-returns-in_default
call-returns-in_default g c = grind (arith, common_steps)

pub call-returns-in_err-step : goal.call-returns-in_err-step
call-returns-in_err-step g c = grind (arith, common_steps)

pub call-returns-in_err-names : goal.call-returns-in_err-names
call-returns-in_err-names g c = search rules

pub call-slice_bounds-earlier-end : goal.call-slice_bounds-earlier-end
call-slice_bounds-earlier-end g c = search rules

pub call-body_value-requires : goal.call-body_value-requires
call-body_value-requires g c = search rules

pub call-returns : goal.call-returns
call-returns g c = grind (arith, common_steps)

pub go_on-pass-requires : goal.go_on-pass-requires
go_on-pass-requires g c = search rules

pub go_on-do_task-requires : goal.go_on-do_task-requires
go_on-do_task-requires g c = search rules

pub go_on-returns-in-Argument-clause-value : goal.go_on-returns-in-Argument-clause-value
go_on-returns-in-Argument-clause-value g c = search rules

pub go_on-returns-in-Argument-clause-work : goal.go_on-returns-in-Argument-clause-work
go_on-returns-in-Argument-clause-work g c = search rules

pub go_on-returns-in_default : goal.go_on-returns-in_default
go_on-returns-in_default g c = search rules

pub pass-returns-in_err-push-clause-value : goal.pass-returns-in_err-push-clause-value
pass-returns-in_err-push-clause-value g c = search rules

pub pass-returns-in_err-push-clause-work : goal.pass-returns-in_err-push-clause-work
pass-returns-in_err-push-clause-work g c = search rules

pub pass-call-requires : goal.pass-call-requires
pass-call-requires g c = search rules

pub pass-returns-in_err-shape-clause-value : goal.pass-returns-in_err-shape-clause-value
pass-returns-in_err-shape-clause-value g c = grind (arith, common_steps)

pub pass-returns-in_err-shape-clause-work : goal.pass-returns-in_err-shape-clause-work
pass-returns-in_err-shape-clause-work g c = search rules

pub pass-returns-in_default-clause-value : goal.pass-returns-in_default-clause-value
pass-returns-in_default-clause-value g c = grind (arith, common_steps)

pub pass-returns-in_default-clause-work : goal.pass-returns-in_default-clause-work
pass-returns-in_default-clause-work g c = search rules

pub pass-returns-clause-work : goal.pass-returns-clause-work
pass-returns-clause-work g c = grind (arith, common_steps)

pub value-returns-in_err-first_factor : goal.value-returns-in_err-first_factor
value-returns-in_err-first_factor g c = search rules

pub value-each-init : goal.value-each-init
value-each-init g c = search rules

pub value-returns-in_err-next-in-Inner : goal.value-returns-in_err-next-in-Inner
value-returns-in_err-next-in-Inner g c = search rules

pub value-each-smaller-in-Inner : goal.value-each-smaller-in-Inner
value-each-smaller-in-Inner g c = search rules

pub value-each-preserved-in-Inner : goal.value-each-preserved-in-Inner
value-each-preserved-in-Inner g c = search rules

pub value-returns-in_default : goal.value-returns-in_default
value-returns-in_default g c = search rules

pub value-go_on-requires : goal.value-go_on-requires
value-go_on-requires g c = search rules

pub value-returns-in_err-next-in-Found : goal.value-returns-in_err-next-in-Found
value-returns-in_err-next-in-Found g c = grind (arith, common_steps)

pub value-each-smaller : goal.value-each-smaller
value-each-smaller g c = grind (arith, common_steps)

pub value-each-preserved : goal.value-each-preserved
value-each-preserved g c = grind (arith, common_steps)
