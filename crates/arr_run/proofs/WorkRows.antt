-- The work of expressions whose parts are vectors.
use Rattle.std.proofs.Common.{◌≡◌, ◌+◌, List, [], ◌∷◌, ◌++◌, refl, ap, ◌∙◌, arith}
use Rattle.std.specs.Prelude.{Vec, sum_by}
use Rattle.std.specs.declared.alloc.Global.{Global}
use Rattle.std.proofs.lemmas.List.Sums.{sum_by-cons, sum_by_push}
use Rattle.arr_ast.specs.declared.expression.Expression.{Expression, Row_of-AddedTerm, end_of-AddedTerm, more_of-AddedTerm, items-the_row-AddedTerm, items_hidden-the_row-AddedTerm-1, out-Expression, is-Expression'}
use Rattle.arr_ast.specs.declared.expression.Term.{Term, Row_of-TimesFactor, end_of-TimesFactor, more_of-TimesFactor, items-the_row-TimesFactor, items_hidden-the_row-TimesFactor-2, out-Term, is-Term'}
use Rattle.arr_ast.specs.declared.expression.Factor.TheBlock.{hidden-the_row-AddedTerm-1, hidden-the_row-TimesFactor-2, hidden-the_row-Expression-0}
use Rattle.arr_ast.specs.declared.expression.Factor.{Row_of-Expression, end_of-Expression, more_of-Expression, items-the_row-Expression, items_hidden-the_row-Expression-0}
use Rattle.arr_ast.specs.declared.expression.AddedTerm.{AddedTerm'}
use Rattle.arr_ast.specs.ExpressionTree.{expression_tree, added_tree, term_tree, times_tree, factor_tree, arguments_tree}
use Rattle.arr_run.specs.declared.task.Task.{Task}
use Rattle.arr_run.specs.Work.{expression_work, added_work, term_work, times_work, factor_work, arguments_work, added_term_work, times_factor_work, further_work, task_work, tasks_work}

added_work-items : {n : _} (added : Row_of-AddedTerm n) → added_work (added_tree added) ≡ sum_by added_term_work (items-the_row-AddedTerm n added)
added_work-items end_of-AddedTerm = refl
added_work-items (more_of-AddedTerm (AddedTerm' sign at term) rest) =
    omega (arith, added_work-items rest, sum_by-cons added_term_work (AddedTerm' sign at term) (items-the_row-AddedTerm _ rest))

pub expression_work-out : (expression : Expression) → expression_work (expression_tree expression) ≡ term_work (term_tree (out-Expression expression).first) + (sum_by added_term_work (out-Expression expression).added.items + 1)
expression_work-out expression =
    ap (λ e. expression_work (expression_tree e)) (is-Expression' expression)
    ∙ ap (λ more. term_work (term_tree (out-Expression expression).first) + (more + 1)) (added_work-items (hidden-the_row-AddedTerm-1 (out-Expression expression).added) ∙ ap (sum_by added_term_work) (items_hidden-the_row-AddedTerm-1 (out-Expression expression).added))

times_work-items : {n : _} (times : Row_of-TimesFactor n) → times_work (times_tree times) ≡ sum_by times_factor_work (items-the_row-TimesFactor n times)
times_work-items end_of-TimesFactor = refl
times_work-items (more_of-TimesFactor at factor rest) =
    omega (arith, times_work-items rest, sum_by-cons times_factor_work (record { at = at; factor = factor }) (items-the_row-TimesFactor _ rest))

pub term_work-out : (term : Term) → term_work (term_tree term) ≡ factor_work (factor_tree (out-Term term).first) + (sum_by times_factor_work (out-Term term).times.items + 2)
term_work-out term =
    ap (λ t. term_work (term_tree t)) (is-Term' term)
    ∙ ap (λ more. factor_work (factor_tree (out-Term term).first) + (more + 2)) (times_work-items (hidden-the_row-TimesFactor-2 (out-Term term).times) ∙ ap (sum_by times_factor_work) (items_hidden-the_row-TimesFactor-2 (out-Term term).times))

arguments_work-items : {n : _} (further : Row_of-Expression n) → arguments_work (arguments_tree further) ≡ sum_by further_work (items-the_row-Expression n further)
arguments_work-items end_of-Expression = refl
arguments_work-items (more_of-Expression argument rest) =
    omega (arith, arguments_work-items rest, sum_by-cons further_work argument (items-the_row-Expression _ rest))

pub arguments_work-made : (further : Vec Expression Global) → arguments_work (arguments_tree (hidden-the_row-Expression-0 further)) ≡ sum_by further_work further.items
arguments_work-made further = arguments_work-items (hidden-the_row-Expression-0 further) ∙ ap (sum_by further_work) (items_hidden-the_row-Expression-0 further)

-- the work of one task more
pub work_pushed : {A : Type 0} (tasks all : List (Task A)) (task : Task A) → all ≡ tasks ++ task ∷ [] → tasks_work all ≡ tasks_work tasks + task_work task
work_pushed tasks all task e = ap tasks_work e ∙ sum_by_push task_work tasks task
