use Rattle.std.proofs.Common.{◌≡◌, length, ap, rules, arith}
use Rattle.std.specs.Prelude.{sum_by}
use Rattle.arr_ast.specs.declared.expression.Term.{out-Term}
use Rattle.arr_run.specs.declared.task.Task.TheVariants.{Factors}
use Rattle.arr_run.specs.Steps.{calls_of, times_values}
use Rattle.arr_run.specs.Work.{times_factor_work}
use Rattle.arr_run.proofs.Waiting.{term-begins, term_alone}
use Rattle.arr_run.proofs.WorkRows.{term_work-out, work_pushed}
use Rattle.arr_run.proofs.factor.first_of_term.Goals as goal

pub returns-then-is_empty-clause-value : goal.returns-then-is_empty-clause-value
returns-then-is_empty-clause-value g c = λ counts kept.
    let none : length (out-Term c.args.term.now).times.items ≡ 0 = search rules in
    term_alone g.M.Machine.operations c.args.defined.now.definitions.now c.args.scope.now c.args.term.now c.args.tasks.now.items counts kept none

pub returns-then-is_empty-clause-work : goal.returns-then-is_empty-clause-work
returns-then-is_empty-clause-work g c = omega (arith, term_work-out c.args.term.now)

pub returns-clause-value : goal.returns-clause-value
returns-clause-value g c = λ counts kept.
    let operations = g.M.Machine.operations in
    let definitions = c.args.defined.now.definitions.now in
    let names = c.args.scope.now in
    term-begins operations definitions names c.args.term.now c.args.tasks.now.items c.push.new.self.items (Factors c.deref.result) counts kept
    (λ found. ap (λ factors. times_values operations (calls_of operations definitions) factors names found) c.deref.ensures.value)
    c.in_ok-push.ensures.items

pub returns-clause-work : goal.returns-clause-work
returns-clause-work g c =
    let pushed = work_pushed c.args.tasks.now.items _ _ c.in_ok-push.ensures.items in
    let factors = ap (sum_by times_factor_work) c.deref.ensures.value in
    omega (arith, term_work-out c.args.term.now, pushed, factors)
