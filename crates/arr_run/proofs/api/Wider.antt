-- A run that the first language doesn't refuse gives the same in the second: its limits are no smaller.
use Rattle.std.proofs.Common.{◌≡◌, ℕ, zero, suc, ◌+◌, ◌-◌, ◌*◌, ◌==◌, ◌≤◌, Bool, true, false, List, [], ◌∷◌, length, reverse, Option, Some, None, Ok, Err, refl, ap, sym, subst, arith}
use Rattle.std.specs.Prelude.{nat_le, nat_lt, if◌then◌else◌}
use Rattle.std.specs.FinSet as set
use Rattle.std.proofs.lemmas.Bool.{leb-true, le-leb}
use Rattle.arr_ast.specs.declared.lang.Lang.TheVariants.{One, Two}
use Rattle.arr_ast.specs.declared.expression.Sign.{Sign}
use Rattle.arr_ast.specs.declared.expression.Sign.TheVariants.{Plus, Minus}
use Rattle.arr_ast.specs.declared.expression.SingleFunction.{SingleFunction}
use Rattle.arr_ast.specs.declared.expression.SingleFunction.TheVariants.{Sum, Transpose}
use Rattle.arr_ast.specs.declared.expression.PairFunction.{PairFunction}
use Rattle.arr_ast.specs.declared.expression.PairFunction.TheVariants.{Scale, Dot, MatMul}
use Rattle.arr_ast.specs.declared.shape.ShapeOf.{ShapeOf}
use Rattle.arr_ast.specs.declared.shape.ShapeOf.TheVariants.{Scalar, Vector, Matrix}
use Rattle.arr_ast.specs.IndexTree as index
use Rattle.arr_ast.specs.ExpressionTree.{NameTree, IndicesTree, ExpressionTree, ExpressionOf, AddedTree, NoTerm, Added, TermTree, TermOf, TimesTree, NoFactor, Times, FactorTree, Number, Name, Element, Negation, Parenthesized, Single, Pair, Call, ArgumentsTree, NoArgument, Argument}
use Rattle.arr_ast.specs.ProgramTree.{StatementTree, Let, Set, SetElement, For, BlockTree, EndOfBlock, Then, TopTree, Output, Inner, InputTree, DefinitionTree, ProgramTree}
use Rattle.arr_scope.specs.declared.bound.Bound.{Bound}
use Rattle.arr_scope.specs.declared.bound.Bound.TheVariants.{Value, Turn}
use Rattle.arr_scope.specs.declared.counts.Counts.{Counts}
use Rattle.arr_scope.specs.declared.refused.CheckKind.TheVariants as kinds
use Rattle.arr_scope.specs.declared.refused.CheckRefused.TheVariants.{Bad}
use Rattle.arr_scope.specs.Agrees.{Answer, ◌>>=◌, each}
use Rattle.arr_run.specs.Bounds.{bounds_of}
use Rattle.arr_scope.specs.Counting.{step_at, nodes_at, constant_at, element_number, with_constant}
use Rattle.arr_run.specs.Definitions.{callables, if_new, if_few, if_parameters, after_definition, after_definitions}
use Rattle.arr_scope.specs.Element.{indices_at}
use Rattle.arr_run.specs.Expression.{Valued, Callable, Calls, called, if_as_many, count_of, Passed, with_argument, parameters_bound, call_value, passed_value, made, element_at, constant_value, bound_value, signed_value, product_value, pair_value, value_of, added_value, term_value, times_value, factor_value}
use Rattle.arr_scope.specs.Limits.{most_nodes}
use Rattle.arr_run.specs.Operations.{Operations}
use Rattle.arr_run.specs.Program.{outputs_at, if_any_output, input_shape, none_counted, after_input, after_top, run_of}
use Rattle.arr_scope.specs.Scope.{Names, binding_of}
use Rattle.arr_scope.specs.Shape.{Shaped, same_shape, size_of, if_alike, for_nodes, for_minus_one, sum_shape, product_shape, single_shape, pair_shape}
use Rattle.arr_run.specs.State.{State, state, bound, if_free, with_name}
use Rattle.arr_run.specs.Statement.{target_shape, if_of, expression_at, stepped, declared, assigned, element_assigned, turns, one_turn, counted_loop, after_statement, after_block}
use Rattle.arr_scope.proofs.api.Counted.{most_nodes-bounded}

-- what is counted, in the second language
abbrev pub in_two : Counts → Counts
in_two counts = record counts { lang = Two }

-- where the first answer isn't refused, the other is what a view makes of it
abbrev pub Kept : {X : Type 0} → (X → X) → Answer X → Answer X → Type 0
Kept view (Ok x) y = y ≡ Ok (view x)
Kept view (Err refused) y = Unit {0}

-- what follows an answer
then_kept : {X Y : Type 0} (view : X → X) (view' : Y → Y) (x y : Answer X) (next next' : X → Answer Y) → Kept view x y → ((found : X) → Kept view' (next found) (next' (view found))) → Kept view' (x >>= next) (y >>= next')
then_kept view view' (Ok x) y next next' kept goes = subst (λ (answer : Answer _). Kept view' (next x) (answer >>= next')) (sym kept) (goes x)
then_kept view view' (Err refused) y next next' kept goes = tt

-- what follows an answer that nothing is counted for
then_same : {X Y : Type 0} (view : Y → Y) (x : Answer X) (next next' : X → Answer Y) → ((found : X) → Kept view (next found) (next' found)) → Kept view (x >>= next) (x >>= next')
then_same view (Ok x) next next' goes = goes x
then_same view (Err refused) next next' goes = tt

step_kept : (at : ℕ) (counts : Counts) → Kept in_two (step_at at counts) (step_at at (in_two counts))
step_kept at counts = by (nat_lt counts.steps 1048576)
  where
    by : (capacity : Bool) → Kept in_two (if capacity then Ok (record counts { steps = counts.steps + 1 }) else Err (Bad at kinds.Steps)) (if capacity then Ok (record (in_two counts) { steps = counts.steps + 1 }) else Err (Bad at kinds.Steps))
    by true = refl
    by false = tt

nodes_kept : (at more : ℕ) (counts : Counts) → Kept in_two (nodes_at at more counts) (nodes_at at more (in_two counts))
nodes_kept at more counts = by (nat_le (more + counts.nodes) (most_nodes counts.lang)) refl
  where
    by : (capacity : Bool) → nat_le (more + counts.nodes) (most_nodes counts.lang) ≡ capacity →
        Kept in_two (if capacity then Ok (record counts { nodes = more + counts.nodes }) else Err (Bad at kinds.Nodes)) (nodes_at at more (in_two counts))
    by true is =
        let within : more + counts.nodes ≤ most_nodes counts.lang = leb-true (more + counts.nodes) (most_nodes counts.lang) is in
        let bound : most_nodes counts.lang ≤ 1048576 = most_nodes-bounded counts.lang in
        let capacity : nat_le (more + counts.nodes) 1048576 ≡ true = le-leb (more + counts.nodes) 1048576 (omega arith) in
        ap (λ b. if b then Ok (record (in_two counts) { nodes = more + counts.nodes }) else Err (Bad at kinds.Nodes)) capacity
    by false is = tt

constant_kept : (at value : ℕ) (counts : Counts) → Kept in_two (constant_at at value counts) (constant_at at value (in_two counts))
constant_kept at value counts = by (set.contains counts.constants (element_number value))
  where
    add : Counts → Answer Counts
    add counts = Ok (with_constant (element_number value) counts)

    by : (there : Bool) → Kept in_two (if there then Ok counts else (nodes_at at 1 counts >>= add)) (if there then Ok (in_two counts) else (nodes_at at 1 (in_two counts) >>= add))
    by true = refl
    by false = then_kept in_two in_two (nodes_at at 1 counts) (nodes_at at 1 (in_two counts)) add add (nodes_kept at 1 counts) (λ found. refl)

outputs_kept : (at more : ℕ) (counts : Counts) → Kept in_two (outputs_at at more counts) (outputs_at at more (in_two counts))
outputs_kept at more counts = by (nat_le (more + counts.outputs) 65535)
  where
    by : (capacity : Bool) → Kept in_two (if capacity then Ok (record counts { outputs = more + counts.outputs }) else Err (Bad at kinds.Outputs)) (if capacity then Ok (record (in_two counts) { outputs = more + counts.outputs }) else Err (Bad at kinds.Outputs))
    by true = refl
    by false = tt

-- ---- shapes

abbrev shaped_in_two : ShapeOf × Counts → ShapeOf × Counts
shaped_in_two shaped = (shaped.0, in_two shaped.1)

alike_kept : (at : ℕ) (left right : ShapeOf) (x y : Shaped) → Kept shaped_in_two x y → Kept shaped_in_two (if_alike at left right x) (if_alike at left right y)
alike_kept at left right x y kept = by (same_shape left right)
  where
    by : (alike : Bool) → Kept shaped_in_two (if alike then x else Err (Bad at kinds.Shape)) (if alike then y else Err (Bad at kinds.Shape))
    by true = kept
    by false = tt

for_nodes_kept : (at count : ℕ) (shape : ShapeOf) (counts : Counts) → Kept shaped_in_two (for_nodes at count shape counts) (for_nodes at count shape (in_two counts))
for_nodes_kept at count shape counts = then_kept in_two shaped_in_two (nodes_at at count counts) (nodes_at at count (in_two counts)) _ _ (nodes_kept at count counts) (λ found. refl)

for_minus_one_kept : (at count : ℕ) (shape : ShapeOf) (counts : Counts) → Kept shaped_in_two (for_minus_one at count shape counts) (for_minus_one at count shape (in_two counts))
for_minus_one_kept at count shape counts =
    then_kept in_two shaped_in_two (constant_at at 2147483646 counts) (constant_at at 2147483646 (in_two counts)) _ _ (constant_kept at 2147483646 counts) (λ found. for_nodes_kept at count shape found)

sum_shape_kept : (sign : Sign) (at : ℕ) (left right : ShapeOf) (counts : Counts) → Kept shaped_in_two (sum_shape sign at left right counts) (sum_shape sign at left right (in_two counts))
sum_shape_kept Plus at left right counts = alike_kept at left right _ _ (for_nodes_kept at (size_of left) left counts)
sum_shape_kept Minus at left right counts = alike_kept at left right _ _ (for_minus_one_kept at (size_of left * 2) left counts)

product_shape_kept : (at : ℕ) (left right : ShapeOf) (counts : Counts) → Kept shaped_in_two (product_shape at left right counts) (product_shape at left right (in_two counts))
product_shape_kept at left right counts = alike_kept at left right _ _ (for_nodes_kept at (size_of left) left counts)

single_shape_kept : (function : SingleFunction) (at : ℕ) (shape : ShapeOf) (counts : Counts) → Kept shaped_in_two (single_shape function at shape counts) (single_shape function at shape (in_two counts))
single_shape_kept Sum at shape counts = for_nodes_kept at (size_of shape - 1) Scalar counts
single_shape_kept Transpose at (Matrix n m) counts = refl
single_shape_kept Transpose at Scalar counts = tt
single_shape_kept Transpose at (Vector n) counts = tt

if_kept : (at : ℕ) (fits : Bool) (x y : Shaped) → Kept shaped_in_two x y → Kept shaped_in_two (if fits then x else Err (Bad at kinds.Shape)) (if fits then y else Err (Bad at kinds.Shape))
if_kept at true x y kept = kept
if_kept at false x y kept = tt

pair_shape_kept : (function : PairFunction) (at : ℕ) (left right : ShapeOf) (counts : Counts) → Kept shaped_in_two (pair_shape function at left right counts) (pair_shape function at left right (in_two counts))
pair_shape_kept Scale at Scalar right counts = for_nodes_kept at (size_of right) right counts
pair_shape_kept Dot at (Vector n) (Vector m) counts = if_kept at (n == m) _ _ (for_nodes_kept at (n + n - 1) Scalar counts)
pair_shape_kept MatMul at (Matrix n m) (Matrix k q) counts = if_kept at (m == k) _ _ (for_nodes_kept at ((n * q) * (m + m - 1)) (Matrix n q) counts)
pair_shape_kept function at left right counts = tt

-- ---- expressions

module _ {A S : Type 0} (operations : Operations A S) where
  abbrev pub valued_in_two : Valued A S → Valued A S
  valued_in_two found = (found.0, found.1, in_two found.2, found.3)

  abbrev passed_in_two : Passed A S → Passed A S
  passed_in_two passed = (passed.0, in_two passed.1, passed.2)

  made_kept : (x y : Shaped) (make : S → A × S) (kept : S) → Kept shaped_in_two x y → Kept valued_in_two (made x make kept) (made y make kept)
  made_kept x y make kept same = then_kept shaped_in_two valued_in_two x y _ _ same (λ found. refl)

  constant_value_kept : (at value : ℕ) (counts : Counts) (kept : S) → Kept valued_in_two (constant_value operations at value counts kept) (constant_value operations at value (in_two counts) kept)
  constant_value_kept at value counts kept =
      made_kept _ _ (operations.constant value) kept (then_kept in_two shaped_in_two (constant_at at value counts) (constant_at at value (in_two counts)) _ _ (constant_kept at value counts) (λ found. refl))

  bound_kept : (at : ℕ) (binding : Option (Bound A)) (counts : Counts) (kept : S) → Kept valued_in_two (bound_value operations at binding counts kept) (bound_value operations at binding (in_two counts) kept)
  bound_kept at None counts kept = tt
  bound_kept at (Some (Turn number)) counts kept = constant_value_kept at number counts kept
  bound_kept at (Some (Value shape array)) counts kept = refl

  -- what a body gives is kept
  abbrev pub IsWide : Callable A S → Type 0
  IsWide callable = (names : Names A) (counts : Counts) (kept : S) → Kept valued_in_two (callable.body names counts kept) (callable.body names (in_two counts) kept)

  abbrev pub AreWide : Calls A S → Type 0
  AreWide [] = Unit {0}
  AreWide (callable ∷ earlier) = IsWide callable × AreWide earlier

  called_if : (here : Bool) (callable : Callable A S) (rest : Answer (Callable A S)) (next next' : Callable A S → Answer (Valued A S)) → Kept valued_in_two (next callable) (next' callable) → Kept valued_in_two (rest >>= next) (rest >>= next') →
      Kept valued_in_two ((if here then Ok callable else rest) >>= next) ((if here then Ok callable else rest) >>= next')
  called_if true callable rest next next' found others = found
  called_if false callable rest next next' found others = others

  called_kept : (at name : ℕ) (calls : Calls A S) (next next' : Callable A S → Answer (Valued A S)) → AreWide calls → ((callable : Callable A S) → IsWide callable → Kept valued_in_two (next callable) (next' callable)) →
      Kept valued_in_two (called at name calls >>= next) (called at name calls >>= next')
  called_kept at name [] next next' wide goes = tt
  called_kept at name (callable ∷ earlier) next next' wide goes =
      called_if (callable.name == name) callable (called at name earlier) next next' (goes callable wide.0) (called_kept at name earlier next next' wide.1 goes)

  argument_kept : (earlier : List (ShapeOf × A)) (x y : Answer (Valued A S)) → Kept valued_in_two x y → Kept passed_in_two (x >>= λ found. Ok (with_argument earlier found)) (y >>= λ found. Ok (with_argument earlier found))
  argument_kept earlier x y kept = then_kept valued_in_two passed_in_two x y _ _ kept (λ found. refl)

  call_kept : (at : ℕ) (callable : Callable A S) → IsWide callable → (passed : Passed A S) → Kept valued_in_two (call_value at callable passed) (call_value at callable (passed_in_two passed))
  call_kept at callable wide passed =
      then_kept in_two valued_in_two (step_at at passed.1) (step_at at (in_two passed.1)) _ _ (step_kept at passed.1) (λ counts. wide (parameters_bound callable.parameters passed.0) counts passed.2)

  module _ (calls : Calls A S) (wide : AreWide calls) where
    mutual
      pub value_kept : (tree : ExpressionTree) (names : Names A) (counts : Counts) (kept : S) → Kept valued_in_two (value_of operations calls tree names counts kept) (value_of operations calls tree names (in_two counts) kept)
      value_kept (ExpressionOf first added) names counts kept =
          then_kept valued_in_two valued_in_two (term_value operations calls first names counts kept) (term_value operations calls first names (in_two counts) kept) _ _ (term_kept first names counts kept) (λ left. added_kept added names left)

      added_kept : (tree : AddedTree) (names : Names A) (left : Valued A S) → Kept valued_in_two (added_value operations calls tree names left) (added_value operations calls tree names (valued_in_two left))
      added_kept NoTerm names left = refl
      added_kept (Added sign at term rest) names left =
          then_kept valued_in_two valued_in_two _ _ (added_value operations calls rest names) (added_value operations calls rest names)
          (then_kept valued_in_two valued_in_two (term_value operations calls term names left.2 left.3) (term_value operations calls term names (in_two left.2) left.3) (signed_value operations sign at left) (signed_value operations sign at (valued_in_two left))
          (term_kept term names left.2 left.3) (λ right. made_kept _ _ (operations.signed sign left.1 right.1) right.3 (sum_shape_kept sign at left.0 right.0 right.2)))
          (λ found. added_kept rest names found)

      term_kept : (tree : TermTree) (names : Names A) (counts : Counts) (kept : S) → Kept valued_in_two (term_value operations calls tree names counts kept) (term_value operations calls tree names (in_two counts) kept)
      term_kept (TermOf first times) names counts kept =
          then_kept valued_in_two valued_in_two (factor_value operations calls first names counts kept) (factor_value operations calls first names (in_two counts) kept) _ _ (factor_kept first names counts kept) (λ left. times_kept times names left)

      times_kept : (tree : TimesTree) (names : Names A) (left : Valued A S) → Kept valued_in_two (times_value operations calls tree names left) (times_value operations calls tree names (valued_in_two left))
      times_kept NoFactor names left = refl
      times_kept (Times at factor rest) names left =
          then_kept valued_in_two valued_in_two _ _ (times_value operations calls rest names) (times_value operations calls rest names)
          (then_kept valued_in_two valued_in_two (factor_value operations calls factor names left.2 left.3) (factor_value operations calls factor names (in_two left.2) left.3) (product_value operations at left) (product_value operations at (valued_in_two left))
          (factor_kept factor names left.2 left.3) (λ right. made_kept _ _ (operations.product left.1 right.1) right.3 (product_shape_kept at left.0 right.0 right.2)))
          (λ found. times_kept rest names found)

      factor_kept : (tree : FactorTree) (names : Names A) (counts : Counts) (kept : S) → Kept valued_in_two (factor_value operations calls tree names counts kept) (factor_value operations calls tree names (in_two counts) kept)
      factor_kept (Number at value) names counts kept = constant_value_kept at value counts kept
      factor_kept (Name name) names counts kept = bound_kept name.at (binding_of name.number names) counts kept
      factor_kept (Element name indices) names counts kept =
          then_same valued_in_two (element_at names name.at indices (binding_of name.number names)) _ _ (λ found. refl)
      factor_kept (Negation at operand) names counts kept =
          then_kept valued_in_two valued_in_two (factor_value operations calls operand names counts kept) (factor_value operations calls operand names (in_two counts) kept) _ _ (factor_kept operand names counts kept)
          (λ found. made_kept _ _ (operations.opposite found.1) found.3 (for_minus_one_kept at (size_of found.0) found.0 found.2))
      factor_kept (Parenthesized at inner) names counts kept = value_kept inner names counts kept
      factor_kept (Single function at parenthesis argument) names counts kept =
          then_kept valued_in_two valued_in_two (value_of operations calls argument names counts kept) (value_of operations calls argument names (in_two counts) kept) _ _ (value_kept argument names counts kept)
          (λ found. made_kept _ _ (operations.single function found.0 found.1) found.3 (single_shape_kept function at found.0 found.2))
      factor_kept (Pair function at parenthesis left right) names counts kept =
          then_kept valued_in_two valued_in_two (value_of operations calls left names counts kept) (value_of operations calls left names (in_two counts) kept) _ _ (value_kept left names counts kept)
          (λ left.
          then_kept valued_in_two valued_in_two (value_of operations calls right names left.2 left.3) (value_of operations calls right names (in_two left.2) left.3) (pair_value operations function at left) (pair_value operations function at (valued_in_two left))
          (value_kept right names left.2 left.3) (λ right. made_kept _ _ (operations.pair function left.0 right.0 left.1 right.1) right.3 (pair_shape_kept function at left.0 right.0 right.2)))
      factor_kept (Call name parenthesis first further) names counts kept =
          called_kept name.at name.number calls _ _ wide
          (λ callable is_wide.
          then_same valued_in_two (if_as_many name.at (length callable.parameters) (suc (count_of further))) _ _
          (λ fits.
          then_kept passed_in_two valued_in_two _ _ (call_value name.at callable) (call_value name.at callable)
          (then_kept passed_in_two passed_in_two _ _ (passed_value operations calls further names) (passed_value operations calls further names)
          (argument_kept [] (value_of operations calls first names counts kept) (value_of operations calls first names (in_two counts) kept) (value_kept first names counts kept))
          (λ passed. passed_kept further names passed))
          (λ passed. call_kept name.at callable is_wide passed)))

      passed_kept : (tree : ArgumentsTree) (names : Names A) (passed : Passed A S) → Kept passed_in_two (passed_value operations calls tree names passed) (passed_value operations calls tree names (passed_in_two passed))
      passed_kept NoArgument names passed = refl
      passed_kept (Argument argument rest) names passed =
          then_kept passed_in_two passed_in_two _ _ (passed_value operations calls rest names) (passed_value operations calls rest names)
          (argument_kept passed.0 (value_of operations calls argument names passed.1 passed.2) (value_of operations calls argument names (in_two passed.1) passed.2) (value_kept argument names passed.1 passed.2))
          (λ more. passed_kept rest names more)

  calls_wide : (definitions : List DefinitionTree) → AreWide (callables operations definitions)
  calls_wide [] = tt
  calls_wide (definition ∷ earlier) = (λ names counts kept. value_kept (callables operations earlier) (calls_wide earlier) definition.body names counts kept, calls_wide earlier)

  -- ---- statements

  abbrev pub state_in_two : State A S → State A S
  state_in_two before = state before.names (in_two before.counts) before.kept

  -- what a run of a part gives is kept
  abbrev IsKept : (State A S → Answer (State A S)) → Type 0
  IsKept run = (before : State A S) → Kept state_in_two (run before) (run (state_in_two before))

  stepped_kept : (at : ℕ) (run : State A S → Answer (State A S)) → IsKept run → IsKept (stepped operations at run)
  stepped_kept at run goes before = then_kept in_two state_in_two (step_at at before.counts) (step_at at (in_two before.counts)) _ _ (step_kept at before.counts) (λ counts. goes (state before.names counts before.kept))

  turn_kept : (at : ℕ) (name : NameTree) (body : State A S → Answer (State A S)) → IsKept body → (turn : ℕ) → IsKept (one_turn operations at name body turn)
  turn_kept at name body goes turn before =
      then_kept in_two state_in_two (step_at at before.counts) (step_at at (in_two before.counts)) _ _ (step_kept at before.counts)
      (λ counts.
      then_kept state_in_two state_in_two (body (state (with_name name.number (Turn turn) before.names) counts before.kept)) (body (state (with_name name.number (Turn turn) before.names) (in_two counts) before.kept)) _ _
      (goes (state (with_name name.number (Turn turn) before.names) counts before.kept)) (λ after. refl))

  turns_kept : (left turn : ℕ) (body : ℕ → State A S → Answer (State A S)) → ((turn : ℕ) → IsKept (body turn)) → IsKept (turns operations left turn body)
  turns_kept zero turn body goes before = refl
  turns_kept (suc left) turn body goes before =
      then_kept state_in_two state_in_two (body turn before) (body turn (state_in_two before)) _ _ (goes turn before) (λ after. turns_kept left (turn + 1) body goes after)

  module _ (definitions : List DefinitionTree) where
    abbrev calls : Calls A S
    calls = callables operations definitions

    expression_kept : (value : ExpressionTree) (names : Names A) (counts : Counts) (kept : S) → Kept valued_in_two (value_of operations calls value names counts kept) (value_of operations calls value names (in_two counts) kept)
    expression_kept value names counts kept = value_kept calls (calls_wide definitions) value names counts kept

    declared_kept : (name : NameTree) (value : ExpressionTree) → IsKept (declared operations definitions name value)
    declared_kept name value before =
        then_same state_in_two (if_new name before.names definitions) _ _ (λ free.
        then_kept valued_in_two state_in_two (value_of operations calls value before.names before.counts before.kept) (value_of operations calls value before.names (in_two before.counts) before.kept) _ _
        (expression_kept value before.names before.counts before.kept) (λ found. refl))

    assigned_kept : (name : NameTree) (value : ExpressionTree) → IsKept (assigned operations definitions name value)
    assigned_kept name value before =
        then_same state_in_two (target_shape name.at (bound name before.names)) _ _ (λ shape.
        then_kept valued_in_two state_in_two (value_of operations calls value before.names before.counts before.kept) (value_of operations calls value before.names (in_two before.counts) before.kept) _ _
        (expression_kept value before.names before.counts before.kept) (λ found. then_same state_in_two (if_of shape (expression_at value) found.0) _ _ (λ fits. refl)))

    element_assigned_kept : (name : NameTree) (indices : IndicesTree) (value : ExpressionTree) → IsKept (element_assigned operations definitions name indices value)
    element_assigned_kept name indices value before =
        then_same state_in_two (target_shape name.at (bound name before.names)) _ _ (λ shape.
        then_same state_in_two (indices_at before.names name.at indices.second indices.first shape) _ _ (λ place.
        then_kept valued_in_two state_in_two (value_of operations calls value before.names before.counts before.kept) (value_of operations calls value before.names (in_two before.counts) before.kept) _ _
        (expression_kept value before.names before.counts before.kept) (λ found. then_same state_in_two (if_of Scalar (expression_at value) found.0) _ _ (λ fits. refl))))

    loop_kept : (at : ℕ) (name : NameTree) (low high : index.Sum) (body : State A S → Answer (State A S)) → IsKept body → IsKept (counted_loop operations definitions at name low high body)
    loop_kept at name low high body goes before =
        then_same state_in_two (if_new name before.names definitions) _ _ (λ free.
        then_same state_in_two (bounds_of before.names low high) _ _ (λ bounds. turns_kept (bounds.1 - bounds.0) bounds.0 (one_turn operations at name body) (turn_kept at name body goes) before))

    mutual
      statement_kept : (tree : StatementTree) → IsKept (after_statement operations definitions tree)
      statement_kept (Let at name value) before = stepped_kept at (declared operations definitions name value) (declared_kept name value) before
      statement_kept (Set name value) before = stepped_kept name.at (assigned operations definitions name value) (assigned_kept name value) before
      statement_kept (SetElement name indices value) before = stepped_kept name.at (element_assigned operations definitions name indices value) (element_assigned_kept name indices value) before
      statement_kept (For at name low high body) before =
          stepped_kept at (counted_loop operations definitions at name low high (after_block operations definitions body)) (loop_kept at name low high (after_block operations definitions body) (block_kept body)) before

      block_kept : (tree : BlockTree) → IsKept (after_block operations definitions tree)
      block_kept EndOfBlock before = refl
      block_kept (Then statement rest) before =
          then_kept state_in_two state_in_two (after_statement operations definitions statement before) (after_statement operations definitions statement (state_in_two before)) _ _ (statement_kept statement before) (λ after. block_kept rest after)

    top_kept : (top : TopTree) → IsKept (after_top operations definitions top)
    top_kept (Output at value) before =
        then_kept in_two state_in_two (step_at at before.counts) (step_at at (in_two before.counts)) _ _ (step_kept at before.counts) (λ counts.
        then_kept valued_in_two state_in_two (value_of operations calls value before.names counts before.kept) (value_of operations calls value before.names (in_two counts) before.kept) _ _ (expression_kept value before.names counts before.kept)
        (λ found. then_kept in_two state_in_two (outputs_at at (size_of found.0) found.2) (outputs_at at (size_of found.0) (in_two found.2)) _ _ (outputs_kept at (size_of found.0) found.2) (λ counts. refl)))
    top_kept (Inner statement) before = statement_kept statement before

  -- ---- programs

  input_kept : (input : InputTree) → IsKept (after_input operations input)
  input_kept input before =
      then_kept in_two state_in_two (step_at input.at before.counts) (step_at input.at (in_two before.counts)) _ _ (step_kept input.at before.counts) (λ counts.
      then_same state_in_two (if_free input.name.at (bound input.name before.names)) _ _ (λ free.
      then_same state_in_two (input_shape input.dimensions) _ _ (λ shape.
      then_kept in_two state_in_two (nodes_at input.name.at (size_of shape) counts) (nodes_at input.name.at (size_of shape) (in_two counts)) _ _ (nodes_kept input.name.at (size_of shape) counts) (λ counts. refl))))

  definition_kept : (earlier : List DefinitionTree) (definition : DefinitionTree) → IsKept (after_definition earlier definition)
  definition_kept earlier definition before =
      then_kept in_two state_in_two (step_at definition.at before.counts) (step_at definition.at (in_two before.counts)) _ _ (step_kept definition.at before.counts) (λ counts.
      then_same state_in_two (if_few definition.at earlier) _ _ (λ few.
      then_same state_in_two (if_new definition.name before.names earlier) _ _ (λ free.
      then_same state_in_two (if_parameters (definition.name ∷ []) definition.parameters before.names earlier) _ _ (λ apart. refl))))

  definitions_kept : (earlier definitions : List DefinitionTree) → IsKept (after_definitions earlier definitions)
  definitions_kept earlier [] before = refl
  definitions_kept earlier (definition ∷ definitions) before =
      then_kept state_in_two state_in_two (after_definition earlier definition before) (after_definition earlier definition (state_in_two before)) _ _ (definition_kept earlier definition before)
      (λ after. definitions_kept (definition ∷ earlier) definitions after)

  each_kept : {X : Type 0} (run : X → State A S → Answer (State A S)) → ((x : X) → IsKept (run x)) → (xs : List X) → IsKept (each run xs)
  each_kept run goes [] before = refl
  each_kept run goes (x ∷ xs) before = then_kept state_in_two state_in_two (run x before) (run x (state_in_two before)) _ _ (goes x before) (λ after. each_kept run goes xs after)

  any_kept : (end : ℕ) → IsKept (if_any_output end)
  any_kept end before = by (before.counts.outputs == 0)
    where
      by : (none : Bool) → Kept state_in_two (if none then Err (Bad end kinds.NoOutput) else Ok before) (if none then Err (Bad end kinds.NoOutput) else Ok (state_in_two before))
      by true = tt
      by false = refl

  -- a program that the first language runs to its end is run to the same end in the second
  pub run_kept : (program : ProgramTree) (kept : S) → Kept state_in_two (run_of operations One program kept) (run_of operations Two program kept)
  run_kept program kept =
      let definitions : List DefinitionTree = reverse program.definitions in
      let start : State A S = state [] (none_counted One) kept in
      let inputs = each (after_input operations) program.inputs in
      let defined = after_definitions [] program.definitions in
      let tops = each (after_top operations definitions) program.statements in
      then_kept state_in_two state_in_two (inputs start >>= defined >>= tops) (inputs (state_in_two start) >>= defined >>= tops) (if_any_output program.end) (if_any_output program.end)
      (then_kept state_in_two state_in_two (inputs start >>= defined) (inputs (state_in_two start) >>= defined) tops tops
      (then_kept state_in_two state_in_two (inputs start) (inputs (state_in_two start)) defined defined
      (each_kept (after_input operations) input_kept program.inputs start)
      (λ after. definitions_kept [] program.definitions after))
      (λ after. each_kept (after_top operations definitions) (top_kept definitions) program.statements after))
      (λ after. any_kept program.end after)
