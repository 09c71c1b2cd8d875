-- What waits with one task more.
use Rattle.std.proofs.Common.{◌≡◌, ℕ, suc, List, [], ◌∷◌, ◌++◌, length, Option, Ok, Err, refl, sym, ap, ◌∙◌}
use Rattle.std.specs.Prelude.{Vec}
use Rattle.std.specs.declared.alloc.Global.{Global}
use Rattle.std.proofs.lemmas.List.{reverse-append}
use Rattle.arr_ast.specs.declared.program.Definition.{Definition}
use Rattle.arr_ast.specs.declared.expression.Expression.{Expression, out-Expression}
use Rattle.arr_ast.specs.declared.expression.Term.{Term, out-Term}
use Rattle.arr_ast.specs.declared.expression.TimesFactor.{TimesFactor}
use Rattle.arr_ast.specs.declared.expression.Factor.TheBlock.{hidden-the_row-Expression-0}
use Rattle.arr_ast.specs.ExpressionTree.{NameTree, ExpressionTree, Call, expression_tree, term_tree, factor_tree, arguments_tree}
use Rattle.arr_ast.specs.ProgramTree.{DefinitionTree}
use Rattle.arr_scope.specs.declared.counts.Counts.{Counts}
use Rattle.arr_run.specs.declared.task.Task.{Task}
use Rattle.arr_scope.specs.Agrees.{Answer, ◌>>=◌}
use Rattle.arr_run.specs.Expression.{Valued, Callable, Passed, if_as_many, with_argument, call_value, value_of, term_value, factor_value, product_value}
use Rattle.arr_run.specs.Operations.{Operations}
use Rattle.arr_scope.specs.Scope.{Names}
use Rattle.arr_run.specs.Steps.{newest_first, calls_of, definition_named, definition_at, callable_of, added_values, times_values, argument_value, argument_values}
use Rattle.arr_run.specs.Tasks.{named_with, call_at, after_task, after_each, after_tasks, expression_with, term_with, factor_with}
use Rattle.arr_run.proofs.ExpressionRows.{value_of-out, value_of-alone, term_value-out, term_value-alone, call-made}
use Rattle.arr_run.proofs.Newest.{called-named, called-with, named_with-some}

pub bind_assoc : {X Y Z : Type 0} (x : Answer X) (f : X → Answer Y) (g : Y → Answer Z) → ((x >>= f) >>= g) ≡ (x >>= λ y. f y >>= g)
bind_assoc (Ok x) f g = refl
bind_assoc (Err refused) f g = refl

regroup : {X Y Z W : Type 0} (x : Answer X) (f : X → Y) (g : Y → Answer Z) (h : Z → Answer W) → (((x >>= λ found. Ok (f found)) >>= g) >>= h) ≡ (x >>= λ found. g (f found) >>= h)
regroup (Ok found) f g h = refl
regroup (Err refused) f g h = refl

module _ {A S : Type 0} (operations : Operations A S) (definitions : List Definition) (names : Names A) where
  pub with_task : (tasks : List (Task A)) (task : Task A) (found : Valued A S) →
      after_tasks operations definitions names (tasks ++ task ∷ []) found ≡ (after_task operations definitions names task found >>= after_tasks operations definitions names tasks)
  with_task tasks task found = ap (λ all. after_each operations definitions names all found) (reverse-append tasks (task ∷ []))

  -- what a task makes of a value is made of it where the task waits
  pub waits : (x : Answer (Valued A S)) (tasks all : List (Task A)) (task : Task A) → all ≡ tasks ++ task ∷ [] →
      ((x >>= after_task operations definitions names task) >>= after_tasks operations definitions names tasks) ≡ (x >>= after_tasks operations definitions names all)
  waits x tasks all task e =
      bind_assoc x (after_task operations definitions names task) (after_tasks operations definitions names tasks)
      ∙ (λ i. x >>= λ found. sym (with_task tasks task found) i)
      ∙ ap (λ all. x >>= after_tasks operations definitions names all) (sym e)

  -- the same of what comes next, where a task does it
  pub waits_for : (x : Answer (Valued A S)) (go_on : Valued A S → Answer (Valued A S)) (tasks all : List (Task A)) (task : Task A) →
      ((found : Valued A S) → after_task operations definitions names task found ≡ go_on found) → all ≡ tasks ++ task ∷ [] →
      ((x >>= go_on) >>= after_tasks operations definitions names tasks) ≡ (x >>= after_tasks operations definitions names all)
  waits_for x go_on tasks all task made e =
      (λ i. (x >>= λ found. sym (made found) i) >>= after_tasks operations definitions names tasks)
      ∙ waits x tasks all task e

  -- a term begins with its first factor, and an expression with its first term
  pub term-begins : (term : Term) (tasks all : List (Task A)) (task : Task A) (counts : Counts) (kept : S) →
      ((found : Valued A S) → after_task operations definitions names task found ≡ times_values operations (calls_of operations definitions) (out-Term term).times.items names found) →
      all ≡ tasks ++ task ∷ [] →
      term_with operations definitions names (term_tree term) tasks counts kept ≡ factor_with operations definitions names (factor_tree (out-Term term).first) all counts kept
  term-begins term tasks all task counts kept made e =
      let calls = calls_of operations definitions in
      ap (λ x. x >>= after_tasks operations definitions names tasks) (term_value-out operations calls term names counts kept)
      ∙ waits_for (factor_value operations calls (factor_tree (out-Term term).first) names counts kept) (times_values operations calls (out-Term term).times.items names) tasks all task made e

  pub expression-begins : (expression : Expression) (tasks all : List (Task A)) (task : Task A) (counts : Counts) (kept : S) →
      ((found : Valued A S) → after_task operations definitions names task found ≡ added_values operations (calls_of operations definitions) (out-Expression expression).added.items names found) →
      all ≡ tasks ++ task ∷ [] →
      expression_with operations definitions names (expression_tree expression) tasks counts kept ≡ term_with operations definitions names (term_tree (out-Expression expression).first) all counts kept
  expression-begins expression tasks all task counts kept made e =
      let calls = calls_of operations definitions in
      ap (λ x. x >>= after_tasks operations definitions names tasks) (value_of-out operations calls expression names counts kept)
      ∙ waits_for (term_value operations calls (term_tree (out-Expression expression).first) names counts kept) (added_values operations calls (out-Expression expression).added.items names) tasks all task made e

  -- where nothing is added or multiplied
  pub term_alone : (term : Term) (tasks : List (Task A)) (counts : Counts) (kept : S) → length (out-Term term).times.items ≡ 0 →
      term_with operations definitions names (term_tree term) tasks counts kept ≡ factor_with operations definitions names (factor_tree (out-Term term).first) tasks counts kept
  term_alone term tasks counts kept none =
      ap (λ x. x >>= after_tasks operations definitions names tasks) (term_value-alone operations (calls_of operations definitions) term names counts kept none)

  pub expression_alone : (expression : Expression) (tasks : List (Task A)) (counts : Counts) (kept : S) → length (out-Expression expression).added.items ≡ 0 →
      expression_with operations definitions names (expression_tree expression) tasks counts kept ≡ term_with operations definitions names (term_tree (out-Expression expression).first) tasks counts kept
  expression_alone expression tasks counts kept none =
      ap (λ x. x >>= after_tasks operations definitions names tasks) (value_of-alone operations (calls_of operations definitions) expression names counts kept none)

-- what is multiplied by begins with the next factor
module _ {A S : Type 0} (operations : Operations A S) (definitions : List Definition) (names : Names A) where
  pub times-begins : (times : TimesFactor) (rest : List TimesFactor) (left : Valued A S) (tasks all : List (Task A)) (task : Task A) →
      ((found : Valued A S) → after_task operations definitions names task found ≡
      (product_value operations times.at left found >>= times_values operations (calls_of operations definitions) rest names)) →
      all ≡ tasks ++ task ∷ [] →
      (times_values operations (calls_of operations definitions) (times ∷ rest) names left >>= after_tasks operations definitions names tasks) ≡
      factor_with operations definitions names (factor_tree times.factor) all left.2 left.3
  times-begins times rest left tasks all task made e =
      let calls = calls_of operations definitions in
      let first : Answer (Valued A S) = factor_value operations calls (factor_tree times.factor) names left.2 left.3 in
      let product : Valued A S → Answer (Valued A S) = product_value operations times.at left in
      let others : Valued A S → Answer (Valued A S) = times_values operations calls rest names in
      ap (λ x. x >>= after_tasks operations definitions names tasks) (bind_assoc first product others)
      ∙ waits_for operations definitions names first (λ found. product found >>= others) tasks all task made e

-- a call goes by the definition that its name has, and begins with its first argument, and each argument after it likewise
module _ {A S : Type 0} (operations : Operations A S) (definitions : List Definition) (names : Names A) where
  pub argument-begins : (at place : ℕ) (argument : ExpressionTree) (rest : List Expression) (passed : Passed A S) (tasks : List (Task A)) (task : Task A) →
      ((found : Valued A S) → after_task operations definitions names task found ≡
      (argument_values operations (calls_of operations definitions) rest names (with_argument passed.0 found) >>= call_at operations definitions at place)) →
      (argument_value operations (calls_of operations definitions) argument names passed >>= argument_values operations (calls_of operations definitions) rest names >>=
      call_at operations definitions at place >>= after_tasks operations definitions names tasks) ≡
      expression_with operations definitions names argument (tasks ++ task ∷ []) passed.1 passed.2
  argument-begins at place argument rest passed tasks task made =
      let calls = calls_of operations definitions in
      let first : Answer (Valued A S) = value_of operations calls argument names passed.1 passed.2 in
      ap (λ x. x >>= after_tasks operations definitions names tasks)
      (regroup first (with_argument passed.0) (argument_values operations calls rest names) (call_at operations definitions at place)
      ∙ (λ i. first >>= λ found. sym (made found) i))
      ∙ waits operations definitions names first tasks (tasks ++ task ∷ []) task refl

  pub call-goes : (name : NameTree) (parenthesis : ℕ) (first : ExpressionTree) (further : Vec Expression Global) (count : ℕ) (counts : Counts) (kept : S) → count ≡ length further.items →
      factor_value operations (calls_of operations definitions) (Call name parenthesis first (arguments_tree (hidden-the_row-Expression-0 further))) names counts kept ≡
      (named_with name.at (suc count) (definition_named name.number (newest_first definitions)) >>= λ found. callable_of operations name.at found >>= λ callable.
      argument_value operations (calls_of operations definitions) first names ([], counts, kept) >>= argument_values operations (calls_of operations definitions) further.items names >>= call_value name.at callable)
  call-goes name parenthesis first further count counts kept counted =
      let calls = calls_of operations definitions in
      let arguments : Answer (Passed A S) = argument_value operations calls first names ([], counts, kept) >>= argument_values operations calls further.items names in
      let go_on : Callable A S → Answer (Valued A S) = λ callable. arguments >>= call_value name.at callable in
      call-made operations calls name parenthesis first further names counts kept
      ∙ ap (λ x. x >>= λ callable. if_as_many name.at (length callable.parameters) (suc (length further.items)) >>= λ fits. go_on callable) (called-named operations name.at name.number (newest_first definitions))
      ∙ called-with operations name.at (suc (length further.items)) (definition_named name.number (newest_first definitions)) go_on
      ∙ ap (λ (n : ℕ). named_with name.at (suc n) (definition_named name.number (newest_first definitions)) >>= λ found. callable_of operations name.at found >>= go_on) (sym counted)

  pub call-begins : (name : NameTree) (parenthesis : ℕ) (first : ExpressionTree) (further : Vec Expression Global) (count place : ℕ) (counts : Counts) (kept : S) (tasks : List (Task A)) (task : Task A) → count ≡ length further.items →
      named_with name.at (suc count) (definition_named name.number (newest_first definitions)) ≡ Ok (definition_at place definitions) →
      ((found : Valued A S) → after_task operations definitions names task found ≡
      (argument_values operations (calls_of operations definitions) further.items names (with_argument [] found) >>= call_at operations definitions name.at place)) →
      factor_with operations definitions names (Call name parenthesis first (arguments_tree (hidden-the_row-Expression-0 further))) tasks counts kept ≡ expression_with operations definitions names first (tasks ++ task ∷ []) counts kept
  call-begins name parenthesis first further count place counts kept tasks task counted named made =
      let calls = calls_of operations definitions in
      let arguments : Answer (Passed A S) = argument_value operations calls first names ([], counts, kept) >>= argument_values operations calls further.items names in
      let before : Option (DefinitionTree × List DefinitionTree) → Answer (Valued A S) = λ o. callable_of operations name.at o >>= λ callable. arguments >>= call_value name.at callable in
      let after : Option (DefinitionTree × List DefinitionTree) → Answer (Valued A S) = λ o. arguments >>= λ passed. callable_of operations name.at o >>= λ callable. call_value name.at callable passed in
      let it = named_with-some name.at (suc count) (definition_named name.number (newest_first definitions)) (definition_at place definitions) named in
      ap (λ x. x >>= after_tasks operations definitions names tasks)
      (call-goes name parenthesis first further count counts kept counted
      ∙ ap (λ x. x >>= before) named
      ∙ ap before it.1 ∙ sym (ap after it.1))
      ∙ argument-begins name.at place first further.items ([], counts, kept) tasks task made
