-- What is made of a value by the tasks that wait for it. Contracts of private functions alone speak of it.
use Rattle.std.specs.Prelude.{◌≡◌, ℕ, List, [], ◌∷◌, length, reverse, Option, Some, None, Result, Ok, Err}
use Rattle.arr_ast.specs.declared.program.Definition.{Definition}
use Rattle.arr_ast.specs.declared.expression.Expression.{Expression}
use Rattle.arr_ast.specs.declared.expression.AddedTerm.{AddedTerm}
use Rattle.arr_ast.specs.declared.expression.TimesFactor.{TimesFactor}
use Rattle.arr_ast.specs.ExpressionTree.{ExpressionTree, TermTree, FactorTree, expression_tree, factor_tree}
use Rattle.arr_ast.specs.ProgramTree.{DefinitionTree}
use Rattle.arr_scope.specs.declared.counts.Counts.{Counts}
use Rattle.arr_scope.specs.declared.refused.CheckKind.TheVariants.{Unknown}
use Rattle.arr_scope.specs.declared.refused.CheckRefused.{CheckRefused}
use Rattle.arr_scope.specs.declared.refused.CheckRefused.TheVariants.{Memory, Bad}
use Rattle.arr_run.specs.declared.task.Next.{Next}
use Rattle.arr_run.specs.declared.task.Next.TheVariants.{Inner, Found}
use Rattle.arr_run.specs.declared.task.Task.{Task}
use Rattle.arr_run.specs.declared.task.Task.TheVariants.{Terms, Signed, Factors, Product, Opposite, Single, Left, Right, Argument}
use Rattle.arr_scope.specs.Agrees.{Answer, ◌>>=◌}
use Rattle.arr_run.specs.Expression.{Valued, Passed, if_as_many, with_argument, call_value, value_of, term_value, factor_value, signed_value, product_value, opposite_value, single_value, pair_value}
use Rattle.arr_run.specs.Operations.{Operations}
use Rattle.arr_scope.specs.Scope.{Names}
use Rattle.arr_run.specs.Steps.{calls_of, definition_at, callable_of, added_values, times_values, argument_values}

-- A function goes on as the definition says: the same refusal, or what follows from what it gives.
abbrev pub Continues : {X Y : Type 0} → (X → Answer Y) → Result X CheckRefused → Answer Y → Type 0
Continues go_on (Ok x) answer = answer ≡ go_on x
Continues go_on (Err Memory) answer = Unit {0}
Continues go_on (Err (Bad at kind)) answer = answer ≡ Err (Bad at kind)

-- the definition that is called with so many arguments, with those before it
abbrev pub named_with : ℕ → ℕ → Option (DefinitionTree × List DefinitionTree)
    → Answer (Option (DefinitionTree × List DefinitionTree))
named_with at arguments None = Err (Bad at Unknown)
named_with at arguments (Some found) =
    if_as_many at (length found.0.parameters) arguments >>= λ fits. Ok (Some found)

module _ {A S : Type 0} (operations : Operations A S) (definitions : List Definition) where
  -- a call of the definition at a place, with all its arguments
  abbrev pub call_at : ℕ → ℕ → Passed A S → Answer (Valued A S)
  call_at at place passed =
      callable_of operations at (definition_at place definitions) >>= λ callable.
      call_value at callable passed

  module _ (names : Names A) where
    -- what a task makes of the value that it waits for
    abbrev pub after_task : Task A → Valued A S → Answer (Valued A S)
    after_task (Terms terms) found =
        added_values operations (calls_of operations definitions) terms.now names found
    after_task (Signed sign at shape array further) found =
        signed_value operations sign at (shape, array, found.2, found.3) found >>=
        added_values operations (calls_of operations definitions) further.now names
    after_task (Factors factors) found =
        times_values operations (calls_of operations definitions) factors.now names found
    after_task (Product at shape array further) found =
        product_value operations at (shape, array, found.2, found.3) found >>=
        times_values operations (calls_of operations definitions) further.now names
    after_task (Opposite at) found = opposite_value operations at found
    after_task (Single function at) found = single_value operations function at found
    after_task (Left function at right) found =
        value_of operations (calls_of operations definitions) (expression_tree right.now) names
        found.2 found.3 >>= pair_value operations function at found
    after_task (Right function at shape array) found =
        pair_value operations function at (shape, array, found.2, found.3) found
    after_task (Argument at place passed further) found =
        argument_values operations (calls_of operations definitions) further.now names
        (with_argument passed.items found) >>= call_at at place

    -- the newest task first
    abbrev pub after_each : List (Task A) → Valued A S → Answer (Valued A S)
    after_each [] found = Ok found
    after_each (task ∷ tasks) found = after_task task found >>= after_each tasks

    -- what all tasks make of a value, of which the last is the newest
    abbrev pub after_tasks : List (Task A) → Valued A S → Answer (Valued A S)
    after_tasks tasks found = after_each (reverse tasks) found

    -- what comes of an expression, of a term and of a factor, with these tasks to be done
    abbrev pub expression_with : ExpressionTree → List (Task A) → Counts → S → Answer (Valued A S)
    expression_with expression tasks counts kept =
        value_of operations (calls_of operations definitions) expression names counts kept >>=
        after_tasks tasks

    abbrev pub term_with : TermTree → List (Task A) → Counts → S → Answer (Valued A S)
    term_with term tasks counts kept =
        term_value operations (calls_of operations definitions) term names counts kept >>=
        after_tasks tasks

    abbrev pub factor_with : FactorTree → List (Task A) → Counts → S → Answer (Valued A S)
    factor_with factor tasks counts kept =
        factor_value operations (calls_of operations definitions) factor names counts kept >>=
        after_tasks tasks

    -- what comes of a value, with a task, terms, factors or arguments before these tasks
    abbrev pub task_with : Task A → Valued A S → List (Task A) → Answer (Valued A S)
    task_with task found tasks = after_task task found >>= after_tasks tasks

    abbrev pub added_with : List AddedTerm → Valued A S → List (Task A) → Answer (Valued A S)
    added_with terms found tasks =
        added_values operations (calls_of operations definitions) terms names found >>=
        after_tasks tasks

    abbrev pub times_with : List TimesFactor → Valued A S → List (Task A) → Answer (Valued A S)
    times_with factors found tasks =
        times_values operations (calls_of operations definitions) factors names found >>=
        after_tasks tasks

    abbrev pub arguments_with : ℕ → ℕ → List Expression → Passed A S → List (Task A)
        → Answer (Valued A S)
    arguments_with at place further passed tasks =
        argument_values operations (calls_of operations definitions) further names passed >>=
        call_at at place >>= after_tasks tasks

    -- what comes of what is next
    abbrev pub next_with : Next A → List (Task A) → Counts → S → Answer (Valued A S)
    next_with (Inner factor) tasks counts kept =
        factor_with (factor_tree factor.now) tasks counts kept
    next_with (Found shape array) tasks counts kept = after_tasks tasks (shape, array, counts, kept)
