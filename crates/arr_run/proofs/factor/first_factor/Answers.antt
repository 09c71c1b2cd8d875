use Rattle.std.proofs.Common.{◌≡◌, length, ap, ◌∙◌, rules, arith}
use Rattle.std.specs.Prelude.{sum_by}
use Rattle.arr_ast.specs.declared.expression.Expression.{out-Expression}
use Rattle.arr_run.specs.declared.task.Task.TheVariants.{Terms}
use Rattle.arr_run.specs.Steps.{calls_of, added_values}
use Rattle.arr_run.specs.Work.{added_term_work}
use Rattle.arr_run.proofs.Waiting.{expression-begins, expression_alone}
use Rattle.arr_run.proofs.WorkRows.{expression_work-out, work_pushed}
use Rattle.arr_run.proofs.factor.first_factor.Goals as goal

pub returns-then-is_empty-clause-value : goal.returns-then-is_empty-clause-value
returns-then-is_empty-clause-value g c = λ counts kept.
    let none : length (out-Expression c.args.expression.now).added.items ≡ 0 = search rules in
    expression_alone g.M.Machine.operations c.args.defined.now.definitions.now c.args.scope.now c.args.expression.now c.args.tasks.now.items counts kept none
    ∙ c.in_ok-first.ensures.value counts kept

pub returns-clause-value : goal.returns-clause-value
returns-clause-value g c = λ counts kept.
    let operations = g.M.Machine.operations in
    let definitions = c.args.defined.now.definitions.now in
    let names = c.args.scope.now in
    expression-begins operations definitions names c.args.expression.now c.args.tasks.now.items c.push.new.self.items (Terms c.deref.result) counts kept
    (λ found. ap (λ terms. added_values operations (calls_of operations definitions) terms names found) c.deref.ensures.value)
    c.in_ok-push.ensures.items
    ∙ c.in_ok-first-2.ensures.value counts kept

pub returns-clause-work : goal.returns-clause-work
returns-clause-work g c =
    let pushed = work_pushed c.args.tasks.now.items _ _ c.in_ok-push.ensures.items in
    let terms = ap (sum_by added_term_work) c.deref.ensures.value in
    omega (arith, expression_work-out c.args.expression.now, pushed, terms, c.in_ok-first-2.ensures.work)
