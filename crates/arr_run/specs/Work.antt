-- How much is left to do, by which an evaluation ends: what each task leaves weighs less than the task.
use Rattle.std.specs.Prelude.{ℕ, ◌+◌, List, sum_by}
use Rattle.arr_ast.specs.declared.expression.Expression.{Expression}
use Rattle.arr_ast.specs.declared.expression.AddedTerm.{AddedTerm, AddedTerm'}
use Rattle.arr_ast.specs.declared.expression.TimesFactor.{TimesFactor}
use Rattle.arr_ast.specs.ExpressionTree.{ExpressionTree, ExpressionOf, AddedTree, NoTerm, Added, TermTree, TermOf, TimesTree, NoFactor, Times, FactorTree, Number, Name, Element, Negation, Parenthesized, Single as SingleOf, Pair as PairOf, Call, ArgumentsTree, NoArgument, Argument as ArgumentOf, expression_tree, term_tree, factor_tree}
use Rattle.arr_run.specs.declared.task.Next.{Next}
use Rattle.arr_run.specs.declared.task.Next.TheVariants.{Inner, Found}
use Rattle.arr_run.specs.declared.task.Task.{Task}
use Rattle.arr_run.specs.declared.task.Task.TheVariants.{Terms, Signed, Factors, Product, Opposite, Single, Left, Right, Argument}

abbrev mutual
  pub expression_work : ExpressionTree → ℕ
  expression_work (ExpressionOf first added) = term_work first + (added_work added + 1)

  pub added_work : AddedTree → ℕ
  added_work NoTerm = 0
  added_work (Added sign at term rest) = term_work term + (added_work rest + 1)

  pub term_work : TermTree → ℕ
  term_work (TermOf first times) = factor_work first + (times_work times + 2)

  pub times_work : TimesTree → ℕ
  times_work NoFactor = 0
  times_work (Times at factor rest) = factor_work factor + (times_work rest + 2)

  pub factor_work : FactorTree → ℕ
  factor_work (Number at value) = 0
  factor_work (Name name) = 0
  factor_work (Element name indices) = 0
  factor_work (Negation at operand) = factor_work operand + 2
  factor_work (Parenthesized at inner) = expression_work inner
  factor_work (SingleOf function at parenthesis argument) = expression_work argument + 1
  factor_work (PairOf function at parenthesis left right) =
      expression_work left + (expression_work right + 2)
  factor_work (Call name parenthesis first further) =
      expression_work first + (arguments_work further + 1)

  pub arguments_work : ArgumentsTree → ℕ
  arguments_work NoArgument = 0
  arguments_work (ArgumentOf argument rest) = expression_work argument + (arguments_work rest + 1)

abbrev pub added_term_work : AddedTerm → ℕ
added_term_work (AddedTerm' sign at term) = term_work (term_tree term) + 1

abbrev pub times_factor_work : TimesFactor → ℕ
times_factor_work times = factor_work (factor_tree times.factor) + 2

abbrev pub further_work : Expression → ℕ
further_work argument = expression_work (expression_tree argument) + 1

abbrev pub task_work : {A : Type 0} → Task A → ℕ
task_work (Terms terms) = sum_by added_term_work terms.now + 1
task_work (Signed sign at shape array further) = sum_by added_term_work further.now + 1
task_work (Factors factors) = sum_by times_factor_work factors.now + 1
task_work (Product at shape array further) = sum_by times_factor_work further.now + 1
task_work (Opposite at) = 1
task_work (Single function at) = 1
task_work (Left function at right) = expression_work (expression_tree right.now) + 2
task_work (Right function at shape array) = 1
task_work (Argument at place passed further) = sum_by further_work further.now + 1

abbrev pub tasks_work : {A : Type 0} → List (Task A) → ℕ
tasks_work tasks = sum_by task_work tasks

abbrev pub next_work : {A : Type 0} → Next A → ℕ
next_work (Inner factor) = factor_work (factor_tree factor.now) + 1
next_work (Found shape array) = 0
