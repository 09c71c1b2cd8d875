-- The values of expressions whose parts are vectors.
use Rattle.std.proofs.Common.{◌≡◌, ℕ, suc, [], length, Ok, Err, refl, ap, ◌∙◌}
use Rattle.std.specs.Prelude.{Vec}
use Rattle.std.proofs.lemmas.List.{nil_from_length}
use Rattle.arr_ast.specs.declared.expression.Expression.{Expression, Row_of-AddedTerm, end_of-AddedTerm, more_of-AddedTerm, items-the_row-AddedTerm, items_hidden-the_row-AddedTerm-1, out-Expression, is-Expression'}
use Rattle.arr_ast.specs.declared.expression.Term.{Term, Row_of-TimesFactor, end_of-TimesFactor, more_of-TimesFactor, items-the_row-TimesFactor, items_hidden-the_row-TimesFactor-2, out-Term, is-Term'}
use Rattle.arr_ast.specs.declared.expression.Factor.TheBlock.{hidden-the_row-AddedTerm-1, hidden-the_row-TimesFactor-2, hidden-the_row-Expression-0}
use Rattle.arr_ast.specs.declared.expression.AddedTerm.{AddedTerm'}
use Rattle.arr_ast.specs.ExpressionTree.{NameTree, ExpressionTree, Call, expression_tree, added_tree, term_tree, times_tree, factor_tree, arguments_tree}
use Rattle.arr_scope.specs.declared.counts.Counts.{Counts}
use Rattle.arr_scope.specs.Agrees.{Answer, ◌>>=◌}
use Rattle.std.specs.declared.alloc.Global.{Global}
use Rattle.arr_ast.specs.declared.expression.Factor.{Row_of-Expression, end_of-Expression, more_of-Expression, items-the_row-Expression, items_hidden-the_row-Expression-0}
use Rattle.arr_run.specs.Expression.{Valued, Calls, Passed, called, if_as_many, count_of, call_value, passed_value, value_of, added_value, term_value, times_value, factor_value, product_value}
use Rattle.arr_run.specs.Operations.{Operations}
use Rattle.arr_scope.specs.Scope.{Names}
use Rattle.arr_run.specs.Steps.{added_term_value, added_values, times_values, argument_value, argument_values}
use Rattle.arr_run.specs.Statement.{expression_at, term_at, factor_at}

count_of-items : {n : _} (further : Row_of-Expression n) → count_of (arguments_tree further) ≡ length (items-the_row-Expression n further)
count_of-items end_of-Expression = refl
count_of-items (more_of-Expression argument rest) = ap suc (count_of-items rest)

pub ok_bound : {X : Type 0} (x : Answer X) → (x >>= λ found. Ok found) ≡ x
ok_bound (Ok found) = refl
ok_bound (Err refused) = refl

module _ {A S : Type 0} (operations : Operations A S) (calls : Calls A S) where
  added_value-items : {n : _} (added : Row_of-AddedTerm n) (names : Names A) (left : Valued A S) → added_value operations calls (added_tree added) names left ≡ added_values operations calls (items-the_row-AddedTerm n added) names left
  added_value-items end_of-AddedTerm names left = refl
  added_value-items (more_of-AddedTerm (AddedTerm' sign at term) rest) names left = λ i. added_term_value operations calls (AddedTerm' sign at term) names left >>= λ left. added_value-items rest names left i

  pub value_of-out : (expression : Expression) (names : Names A) (counts : Counts) (kept : S) → value_of operations calls (expression_tree expression) names counts kept ≡
      (term_value operations calls (term_tree (out-Expression expression).first) names counts kept >>= added_values operations calls (out-Expression expression).added.items names)
  value_of-out expression names counts kept =
      ap (λ e. value_of operations calls (expression_tree e) names counts kept) (is-Expression' expression)
      ∙ (λ i. term_value operations calls (term_tree (out-Expression expression).first) names counts kept >>= λ left.
      (added_value-items (hidden-the_row-AddedTerm-1 (out-Expression expression).added) names left
      ∙ ap (λ terms. added_values operations calls terms names left) (items_hidden-the_row-AddedTerm-1 (out-Expression expression).added)) i)

  times_value-items : {n : _} (times : Row_of-TimesFactor n) (names : Names A) (left : Valued A S) → times_value operations calls (times_tree times) names left ≡ times_values operations calls (items-the_row-TimesFactor n times) names left
  times_value-items end_of-TimesFactor names left = refl
  times_value-items (more_of-TimesFactor at factor rest) names left =
      λ i. (factor_value operations calls (factor_tree factor) names left.2 left.3 >>= product_value operations at left) >>= λ left. times_value-items rest names left i

  pub term_value-out : (term : Term) (names : Names A) (counts : Counts) (kept : S) → term_value operations calls (term_tree term) names counts kept ≡
      (factor_value operations calls (factor_tree (out-Term term).first) names counts kept >>= times_values operations calls (out-Term term).times.items names)
  term_value-out term names counts kept =
      ap (λ t. term_value operations calls (term_tree t) names counts kept) (is-Term' term)
      ∙ (λ i. factor_value operations calls (factor_tree (out-Term term).first) names counts kept >>= λ left.
      (times_value-items (hidden-the_row-TimesFactor-2 (out-Term term).times) names left
      ∙ ap (λ factors. times_values operations calls factors names left) (items_hidden-the_row-TimesFactor-2 (out-Term term).times)) i)

  -- an expression without a sign is its term, and a term without a times its factor
  pub value_of-alone : (expression : Expression) (names : Names A) (counts : Counts) (kept : S) → length (out-Expression expression).added.items ≡ 0 →
      value_of operations calls (expression_tree expression) names counts kept ≡ term_value operations calls (term_tree (out-Expression expression).first) names counts kept
  value_of-alone expression names counts kept none =
      value_of-out expression names counts kept
      ∙ ap (λ terms. term_value operations calls (term_tree (out-Expression expression).first) names counts kept >>= added_values operations calls terms names) (nil_from_length _ none)
      ∙ ok_bound _

  pub term_value-alone : (term : Term) (names : Names A) (counts : Counts) (kept : S) → length (out-Term term).times.items ≡ 0 →
      term_value operations calls (term_tree term) names counts kept ≡ factor_value operations calls (factor_tree (out-Term term).first) names counts kept
  term_value-alone term names counts kept none =
      term_value-out term names counts kept
      ∙ ap (λ factors. factor_value operations calls (factor_tree (out-Term term).first) names counts kept >>= times_values operations calls factors names) (nil_from_length _ none)
      ∙ ok_bound _

  passed_value-items : {n : _} (further : Row_of-Expression n) (names : Names A) (passed : Passed A S) → passed_value operations calls (arguments_tree further) names passed ≡ argument_values operations calls (items-the_row-Expression n further) names passed
  passed_value-items end_of-Expression names passed = refl
  passed_value-items (more_of-Expression argument rest) names passed =
      λ i. argument_value operations calls (expression_tree argument) names passed >>= λ passed. passed_value-items rest names passed i

  -- a call whose further arguments are a vector
  pub call-made : (name : NameTree) (parenthesis : ℕ) (first : ExpressionTree) (further : Vec Expression Global) (names : Names A) (counts : Counts) (kept : S) →
      factor_value operations calls (Call name parenthesis first (arguments_tree (hidden-the_row-Expression-0 further))) names counts kept ≡
      (called name.at name.number calls >>= λ callable.
      if_as_many name.at (length callable.parameters) (suc (length further.items)) >>= λ fits.
      argument_value operations calls first names ([], counts, kept) >>= argument_values operations calls further.items names >>= call_value name.at callable)
  call-made name parenthesis first further names counts kept =
      λ i. called name.at name.number calls >>= λ callable.
      if_as_many name.at (length callable.parameters) (suc ((count_of-items (hidden-the_row-Expression-0 further) ∙ ap length (items_hidden-the_row-Expression-0 further)) i)) >>= λ fits.
      argument_value operations calls first names ([], counts, kept) >>= (λ passed.
      (passed_value-items (hidden-the_row-Expression-0 further) names passed
      ∙ ap (λ items. argument_values operations calls items names passed) (items_hidden-the_row-Expression-0 further)) i) >>= call_value name.at callable

pub expression_at-out : (expression : Expression) → expression_at (expression_tree expression) ≡ factor_at (factor_tree (out-Term (out-Expression expression).first).first)
expression_at-out expression = ap (λ e. expression_at (expression_tree e)) (is-Expression' expression) ∙ ap (λ t. term_at (term_tree t)) (is-Term' (out-Expression expression).first)

pub ruleset of_places = (expression_at-out)
