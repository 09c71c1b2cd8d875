use Rattle.std.proofs.lemmas.Grind.{common_steps}
use Rattle.std.proofs.Common.{◌≡◌, ◌+◌, [], ◌∷◌, ◌++◌, sym, ap, ◌∙◌, rules, arith}
use Rattle.std.specs.Prelude.{sum_by}
use Rattle.arr_ast.specs.declared.expression.Factor.TheBlock.{hidden-the_row-Expression-0}
use Rattle.arr_ast.specs.ExpressionTree.{name_tree, expression_tree, factor_tree, arguments_tree}
use Rattle.arr_run.specs.declared.task.Task.TheVariants.{Argument}
use Rattle.arr_scope.specs.Agrees.{◌>>=◌}
use Rattle.arr_run.specs.Expression.{factor_value, with_argument}
use Rattle.arr_run.specs.Steps.{calls_of, argument_values}
use Rattle.arr_run.specs.Tasks.{call_at, after_tasks, expression_with, factor_with}
use Rattle.arr_run.specs.Work.{expression_work, factor_work, arguments_work, further_work, task_work, tasks_work}
use Rattle.arr_run.proofs.Waiting.{waits, call-goes, call-begins}
use Rattle.arr_run.proofs.WorkRows.{arguments_work-made}
use Rattle.arr_run.proofs.factor.begin.Goals as goal

pub returns-in_err-place-in-Call-clause-value : goal.returns-in_err-place-in-Call-clause-value
returns-in_err-place-in-Call-clause-value g c =
    let operations = g.M.Machine.operations in
    let definitions = c.args.defined.now.definitions.now in
    let names = c.args.scope.now in
    let tasks = c.args.tasks.now.items in
    rw (ap (λ factor. factor_with operations definitions names (factor_tree factor) tasks c.args.counts.now c.args.machine.now) c.in-Call.is
    ∙ ap (λ x. x >>= after_tasks operations definitions names tasks)
    (call-goes operations definitions names (name_tree c.in-Call.name) c.in-Call.parenthesis (expression_tree c.in-Call.first.value) c.in-Call.further c.len.result c.args.counts.now c.args.machine.now (c.len.ensures ∙ c.in-Call.further.ok.0)))
    (search rules)

pub returns-in_ok-push-in-Negation-clause-value : goal.returns-in_ok-push-in-Negation-clause-value
returns-in_ok-push-in-Negation-clause-value g c =
    let operations = g.M.Machine.operations in
    let definitions = c.args.defined.now.definitions.now in
    let names = c.args.scope.now in
    let tasks = c.args.tasks.now.items in
    ap (λ factor. factor_with operations definitions names (factor_tree factor) tasks c.args.counts.now c.args.machine.now) c.in-Negation.is
    ∙ waits operations definitions names (factor_value operations (calls_of operations definitions) (factor_tree c.in-Negation.operand.value) names c.args.counts.now c.args.machine.now) tasks c.push.new.self.items _ c.in_ok-push-in-Negation.ensures.items
    ∙ ap (λ factor. factor_with operations definitions names (factor_tree factor) c.push.new.self.items c.args.counts.now c.args.machine.now) (sym c.deref.ensures)

pub returns-in_ok-place-in-Call-clause-value : goal.returns-in_ok-place-in-Call-clause-value
returns-in_ok-place-in-Call-clause-value g c =
    let operations = g.M.Machine.operations in
    let definitions = c.args.defined.now.definitions.now in
    let names = c.args.scope.now in
    let tasks = c.args.tasks.now.items in
    let task = Argument c.in-Call.name.at c.in_ok-place-in-Call.place c.new-passed.result c.deref-in-Call.result in
    rw (ap (λ factor. factor_with operations definitions names (factor_tree factor) tasks c.args.counts.now c.args.machine.now) c.in-Call.is
    ∙ call-begins operations definitions names (name_tree c.in-Call.name) c.in-Call.parenthesis (expression_tree c.in-Call.first.value) c.in-Call.further c.len.result c.in_ok-place-in-Call.place c.args.counts.now c.args.machine.now
    tasks task (c.len.ensures ∙ c.in-Call.further.ok.0) c.in_ok-place-in-Call.ensures.found
    (λ found i. argument_values operations (calls_of operations definitions) (c.deref-in-Call.ensures.value i) names (with_argument (c.new-passed.ensures.items i) found) >>= call_at operations definitions c.in-Call.name.at c.in_ok-place-in-Call.place)
    ∙ ap (λ first. expression_with operations definitions names (expression_tree first) (tasks ++ task ∷ []) c.args.counts.now c.args.machine.now) (sym c.deref-in-Call-2.ensures))
    (c.begin_operand-in-Call.ensures.value c.args.counts.now c.args.machine.now)

pub returns-in_ok-place-in-Call-clause-work : goal.returns-in_ok-place-in-Call-clause-work
returns-in_ok-place-in-Call-clause-work g c =
    let tasks = c.args.tasks.now.items in
    let task = Argument c.in-Call.name.at c.in_ok-place-in-Call.place c.new-passed.result c.deref-in-Call.result in
    let row : factor_work (factor_tree c.args.factor.now) ≡ expression_work (expression_tree c.in-Call.first.value) + (arguments_work (arguments_tree (hidden-the_row-Expression-0 c.in-Call.further)) + 1) =
    ap (λ factor. factor_work (factor_tree factor)) c.in-Call.is in
    let further = ap (sum_by further_work) c.deref-in-Call.ensures.value in
    let first = ap (λ first. expression_work (expression_tree first)) c.deref-in-Call-2.ensures in
    let same : factor_work (factor_tree c.args.factor.now) + tasks_work tasks ≡ expression_work (expression_tree c.deref-in-Call-2.result.now) + (task_work task + tasks_work tasks) =
    omega (arith, row, further, first, arguments_work-made c.in-Call.further) in
    rw same c.begin_operand-in-Call.ensures.work

pub returns-in_err-shape-in-Number-clause-value : goal.returns-in_err-shape-in-Number-clause-value
returns-in_err-shape-in-Number-clause-value g c = search rules

pub returns-in_err-shape-in-Number-clause-work : goal.returns-in_err-shape-in-Number-clause-work
returns-in_err-shape-in-Number-clause-work g c = search rules

pub returns-in_err-shape-in-Name-clause-value : goal.returns-in_err-shape-in-Name-clause-value
returns-in_err-shape-in-Name-clause-value g c = search rules

pub returns-in_err-shape-in-Name-clause-work : goal.returns-in_err-shape-in-Name-clause-work
returns-in_err-shape-in-Name-clause-work g c = search rules

pub returns-in_err-shape-in-Element-clause-value : goal.returns-in_err-shape-in-Element-clause-value
returns-in_err-shape-in-Element-clause-value g c = search rules

pub returns-in_err-shape-in-Element-clause-work : goal.returns-in_err-shape-in-Element-clause-work
returns-in_err-shape-in-Element-clause-work g c = search rules

pub returns-in_err-push-in-Negation-clause-value : goal.returns-in_err-push-in-Negation-clause-value
returns-in_err-push-in-Negation-clause-value g c = search rules

pub returns-in_err-push-in-Negation-clause-work : goal.returns-in_err-push-in-Negation-clause-work
returns-in_err-push-in-Negation-clause-work g c = search rules

pub returns-in_err-first-in-Parenthesized-clause-value : goal.returns-in_err-first-in-Parenthesized-clause-value
returns-in_err-first-in-Parenthesized-clause-value g c = search rules

pub returns-in_err-first-in-Parenthesized-clause-work : goal.returns-in_err-first-in-Parenthesized-clause-work
returns-in_err-first-in-Parenthesized-clause-work g c = search rules

pub returns-in_err-place-in-Call-clause-work : goal.returns-in_err-place-in-Call-clause-work
returns-in_err-place-in-Call-clause-work g c = search rules

pub returns-in_ok-shape-in-Number-clause-value : goal.returns-in_ok-shape-in-Number-clause-value
returns-in_ok-shape-in-Number-clause-value g c = search rules

pub returns-in_ok-shape-in-Number-clause-work : goal.returns-in_ok-shape-in-Number-clause-work
returns-in_ok-shape-in-Number-clause-work g c = search rules

pub returns-in_ok-shape-in-Name-clause-value : goal.returns-in_ok-shape-in-Name-clause-value
returns-in_ok-shape-in-Name-clause-value g c = search rules

pub returns-in_ok-shape-in-Name-clause-work : goal.returns-in_ok-shape-in-Name-clause-work
returns-in_ok-shape-in-Name-clause-work g c = search rules

pub returns-in_ok-shape-in-Element-clause-value : goal.returns-in_ok-shape-in-Element-clause-value
returns-in_ok-shape-in-Element-clause-value g c = search rules

pub returns-in_ok-shape-in-Element-clause-work : goal.returns-in_ok-shape-in-Element-clause-work
returns-in_ok-shape-in-Element-clause-work g c = search rules

pub returns-in_ok-push-in-Negation-clause-work : goal.returns-in_ok-push-in-Negation-clause-work
returns-in_ok-push-in-Negation-clause-work g c = grind (arith, common_steps)

pub returns-in_ok-first-in-Parenthesized-clause-value : goal.returns-in_ok-first-in-Parenthesized-clause-value
returns-in_ok-first-in-Parenthesized-clause-value g c = search rules

pub returns-in_ok-first-in-Parenthesized-clause-work : goal.returns-in_ok-first-in-Parenthesized-clause-work
returns-in_ok-first-in-Parenthesized-clause-work g c = search rules

pub returns-in-Single-clause-value : goal.returns-in-Single-clause-value
returns-in-Single-clause-value g c = grind (arith, common_steps)

pub returns-in-Single-clause-work : goal.returns-in-Single-clause-work
returns-in-Single-clause-work g c = search rules

pub returns-in-Pair-clause-value : goal.returns-in-Pair-clause-value
returns-in-Pair-clause-value g c = grind (arith, common_steps)

pub returns-in-Pair-clause-work : goal.returns-in-Pair-clause-work
returns-in-Pair-clause-work g c = search rules
