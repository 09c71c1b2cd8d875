-- A program means the same when the places of its parts are forgotten: places are in refusals alone, which meanings don't tell apart.
use Rattle.std.proofs.Common.{◌≡◌, ℕ, zero, suc, ℤ, negsuc, ◌+◌, ◌-◌, ◌*◌, ◌==◌, ◌&&◌, Bool, true, false, List, [], ◌∷◌, ◌++◌, length, reverse, map, Option, Some, None, Ok, Err, refl, ap, sym, ◌∙◌}
use Rattle.std.proofs.lemmas.List.{map-append, reverse-append, length-map}
use Rattle.std.specs.Prelude.{◌||◌, if◌then◌else◌, option_map, nat_le, nat_lt, nat_abs, pos, ◌^◌, ◌*ℤ◌}
use Rattle.std.specs.FinSet as set
use Rattle.arr_ast.specs.declared.expression.Sign.{Sign}
use Rattle.arr_ast.specs.declared.expression.Sign.TheVariants.{Plus, Minus}
use Rattle.arr_ast.specs.declared.expression.SingleFunction.{SingleFunction}
use Rattle.arr_ast.specs.declared.expression.SingleFunction.TheVariants.{Sum as SumOfAll, Transpose}
use Rattle.arr_ast.specs.declared.expression.PairFunction.{PairFunction}
use Rattle.arr_ast.specs.declared.expression.PairFunction.TheVariants.{Scale, Dot, MatMul}
use Rattle.arr_ast.specs.IndexTree as index
use Rattle.arr_ast.specs.ExpressionTree.{NameTree, IndicesTree, ExpressionTree, ExpressionOf, AddedTree, NoTerm, Added, TermTree, TermOf, TimesTree, NoFactor, Times, FactorTree, Number, Name, Element, Negation, Parenthesized, Single, Pair, Call, ArgumentsTree, NoArgument, Argument}
use Rattle.arr_ast.specs.declared.lang.Lang.{Lang}
use Rattle.arr_ast.specs.ProgramTree.{DefinitionTree, StatementTree, Let, Set, SetElement, For, BlockTree, EndOfBlock, Then, TopTree, Output, Inner, InputTree, ProgramTree}
use Rattle.arr_ast.specs.declared.program.Dimensions.{Dimensions}
use Rattle.arr_ast.specs.declared.program.Dimensions.TheVariants as dimensions
use Rattle.arr_ast.specs.declared.shape.ShapeOf.{ShapeOf}
use Rattle.arr_ast.specs.declared.shape.ShapeOf.TheVariants.{Scalar, Vector, Matrix}
use Rattle.arr_scope.specs.declared.bound.Bound.{Bound}
use Rattle.arr_scope.specs.declared.bound.Bound.TheVariants.{Value, Turn}
use Rattle.arr_scope.specs.declared.counts.Counts.{Counts}
use Rattle.arr_scope.specs.declared.refused.CheckKind.TheVariants as kinds
use Rattle.arr_scope.specs.declared.refused.CheckRefused.{CheckRefused}
use Rattle.arr_scope.specs.declared.refused.CheckRefused.TheVariants.{Bad}
use Rattle.arr_scope.specs.Agrees.{Answer, ◌>>=◌, each}
use Rattle.arr_run.specs.Bounds.{turns_of, bounds_of}
use Rattle.arr_scope.specs.Counting.{step_at, nodes_at, constant_at, element_number, with_constant}
use Rattle.arr_scope.specs.Element.{is_place, index_below, indices_at}
use Rattle.arr_scope.specs.Limits.{most_nodes}
use Rattle.arr_run.specs.Definitions.{callables, is_among, is_defined, if_new, if_few, if_apart, if_parameters, after_definition, after_definitions}
use Rattle.arr_run.specs.Expression.{Valued, Callable, Calls, called, if_as_many, count_of, Passed, parameters_bound, passed_value, made, element_at, constant_value, bound_value, value_of, added_value, term_value, times_value, factor_value}
use Rattle.arr_scope.specs.Index.{within, turn_of, signed, index_value, added_index_value, index_term_value, times_index_value, index_factor_value, index_at}
use Rattle.arr_run.specs.Operations.{Operations}
use Rattle.arr_run.specs.Program.{dimension_of, input_shape, outputs_at, none_counted, if_any_output, after_input, after_top, end_of}
use Rattle.arr_scope.specs.Scope.{Names, binding_of}
use Rattle.arr_scope.specs.Shape.{Shaped, size_of, same_shape, for_nodes, for_minus_one, sum_shape, product_shape, single_shape, pair_shape}
use Rattle.arr_run.specs.State.{State, state, bound, if_free, with_name}
use Rattle.arr_run.specs.Statement.{target_shape, if_of, expression_at, stepped, declared, assigned, element_assigned, turns, one_turn, counted_loop, after_statement, after_block}
use Rattle.field_ext.specs.Field.{F}
use Rattle.arr_eval.specs.Meaning.{Kept, numbers, outputs_of, meaning}
use Rattle.arr_parse.specs.Unplaced.{unplaced_sum, unplaced_terms, unplaced_product, unplaced_factors, unplaced_index_factor, unplaced_name, unplaced_indices, unplaced_expression, unplaced_added, unplaced_term, unplaced_times, unplaced_factor, unplaced_arguments, unplaced_statement, unplaced_block, unplaced_top, unplaced_dimensions, unplaced_input, unplaced_definition, unplaced}

-- ---- answers whose refusals are forgotten

abbrev there : {A : Type 0} → Answer A → Option A
there (Ok x) = Some x
there (Err refused) = None

infix 20 ◌≈◌
abbrev ◌≈◌ : {A : Type 0} → Answer A → Answer A → Type 0
x ≈ y = there x ≡ there y

abbrev then_if : {A B : Type 0} → Option A → (A → Option B) → Option B
then_if None go_on = None
then_if (Some x) go_on = go_on x

then_there : {A B : Type 0} (answer : Answer A) (go_on : A → Answer B) → there (answer >>= go_on) ≡ then_if (there answer) (λ x. there (go_on x))
then_there (Ok x) go_on = refl
then_there (Err refused) go_on = refl

both : {A B : Type 0} (answer other : Answer A) (go_on go_on' : A → Answer B) → answer ≈ other → ((x : A) → go_on x ≈ go_on' x) → (answer >>= go_on) ≈ (other >>= go_on')
both answer other go_on go_on' same more =
    then_there answer go_on ∙ (λ i. then_if (same i) (λ x. more x i)) ∙ sym (then_there other go_on')

either : {A : Type 0} (b : Bool) (answer other : Answer A) (refused refused' : CheckRefused) → answer ≈ other → (if b then answer else Err refused) ≈ (if b then other else Err refused')
either true answer other refused refused' same = same
either false answer other refused refused' same = refl

-- ---- counts

step-alike : (at at' : ℕ) (counts : Counts) → step_at at' counts ≈ step_at at counts
step-alike at at' counts = either (nat_lt counts.steps 1048576) _ _ _ _ refl

nodes-alike : (at at' more : ℕ) (counts : Counts) → nodes_at at' more counts ≈ nodes_at at more counts
nodes-alike at at' more counts = either (nat_le (more + counts.nodes) (most_nodes counts.lang)) _ _ _ _ refl

outputs-alike : (at at' more : ℕ) (counts : Counts) → outputs_at at' more counts ≈ outputs_at at more counts
outputs-alike at at' more counts = either (nat_le (more + counts.outputs) 65535) _ _ _ _ refl

constant-alike : (at at' value : ℕ) (counts : Counts) → constant_at at' value counts ≈ constant_at at value counts
constant-alike at at' value counts = by (set.contains counts.constants (element_number value))
  where
    by : (known : Bool) → (if known then Ok counts else (nodes_at at' 1 counts >>= λ counts. Ok (with_constant (element_number value) counts))) ≈ (if known then Ok counts else (nodes_at at 1 counts >>= λ counts. Ok (with_constant (element_number value) counts)))
    by true = refl
    by false = both _ _ _ _ (nodes-alike at at' 1 counts) (λ counts. refl)

-- ---- shapes

for_nodes-alike : (at at' count : ℕ) (shape : ShapeOf) (counts : Counts) → for_nodes at' count shape counts ≈ for_nodes at count shape counts
for_nodes-alike at at' count shape counts = both _ _ _ _ (nodes-alike at at' count counts) (λ counts. refl)

for_minus_one-alike : (at at' count : ℕ) (shape : ShapeOf) (counts : Counts) → for_minus_one at' count shape counts ≈ for_minus_one at count shape counts
for_minus_one-alike at at' count shape counts = both _ _ _ _ (constant-alike at at' 2147483646 counts) (λ counts. for_nodes-alike at at' count shape counts)

sum_shape-alike : (sign : Sign) (at at' : ℕ) (left right : ShapeOf) (counts : Counts) → sum_shape sign at' left right counts ≈ sum_shape sign at left right counts
sum_shape-alike Plus at at' left right counts = either (same_shape left right) _ _ _ _ (for_nodes-alike at at' (size_of left) left counts)
sum_shape-alike Minus at at' left right counts = either (same_shape left right) _ _ _ _ (for_minus_one-alike at at' (size_of left * 2) left counts)

product_shape-alike : (at at' : ℕ) (left right : ShapeOf) (counts : Counts) → product_shape at' left right counts ≈ product_shape at left right counts
product_shape-alike at at' left right counts = either (same_shape left right) _ _ _ _ (for_nodes-alike at at' (size_of left) left counts)

single_shape-alike : (function : SingleFunction) (at at' : ℕ) (shape : ShapeOf) (counts : Counts) → single_shape function at' shape counts ≈ single_shape function at shape counts
single_shape-alike SumOfAll at at' shape counts = for_nodes-alike at at' (size_of shape - 1) Scalar counts
single_shape-alike Transpose at at' Scalar counts = refl
single_shape-alike Transpose at at' (Vector n) counts = refl
single_shape-alike Transpose at at' (Matrix n m) counts = refl

pair_shape-alike : (function : PairFunction) (at at' : ℕ) (left right : ShapeOf) (counts : Counts) → pair_shape function at' left right counts ≈ pair_shape function at left right counts
pair_shape-alike Scale at at' Scalar right counts = for_nodes-alike at at' (size_of right) right counts
pair_shape-alike Scale at at' (Vector n) right counts = refl
pair_shape-alike Scale at at' (Matrix n m) right counts = refl
pair_shape-alike Dot at at' (Vector n) (Vector m) counts = either (n == m) _ _ _ _ (for_nodes-alike at at' (n + n - 1) Scalar counts)
pair_shape-alike Dot at at' (Vector n) Scalar counts = refl
pair_shape-alike Dot at at' (Vector n) (Matrix k q) counts = refl
pair_shape-alike Dot at at' Scalar right counts = refl
pair_shape-alike Dot at at' (Matrix n m) right counts = refl
pair_shape-alike MatMul at at' (Matrix n m) (Matrix k q) counts = either (m == k) _ _ _ _ (for_nodes-alike at at' ((n * q) * (m + m - 1)) (Matrix n q) counts)
pair_shape-alike MatMul at at' (Matrix n m) Scalar counts = refl
pair_shape-alike MatMul at at' (Matrix n m) (Vector k) counts = refl
pair_shape-alike MatMul at at' Scalar right counts = refl
pair_shape-alike MatMul at at' (Vector n) right counts = refl

-- ---- index expressions, elements and bounds

within-alike : (whole whole' : ℕ) (value : ℤ) → within whole' value ≈ within whole value
within-alike whole whole' value = either (nat_le (nat_abs value) (2 ^ 31)) _ _ _ _ refl

turns_of-alike : (at at' : ℕ) (low high : ℤ) → turns_of at' low high ≈ turns_of at low high
turns_of-alike at at' (pos low) (pos high) = either (nat_le low high) _ _ _ _ (either (nat_le high 2147483647) _ _ _ _ refl)
turns_of-alike at at' (pos low) (negsuc high) = refl
turns_of-alike at at' (negsuc low) (pos high) = refl
turns_of-alike at at' (negsuc low) (negsuc high) = refl

module _ {A : Type 0} where
  turn_of-alike : (whole whole' at at' : ℕ) (binding : Option (Bound A)) → turn_of whole' at' binding ≈ turn_of whole at binding
  turn_of-alike whole whole' at at' None = refl
  turn_of-alike whole whole' at at' (Some (Value shape array)) = refl
  turn_of-alike whole whole' at at' (Some (Turn number)) = within-alike whole whole' (pos number)

  mutual
    sum-alike : (names : Names A) (whole whole' : ℕ) (tree : index.Sum) → index_value names whole' (unplaced_sum tree) ≈ index_value names whole tree
    sum-alike names whole whole' (index.SumOf first added) =
        both _ _ _ _ (product-alike names whole whole' first) (λ value. terms-alike names whole whole' added value)

    terms-alike : (names : Names A) (whole whole' : ℕ) (tree : index.Terms) (value : ℤ) → added_index_value names whole' (unplaced_terms tree) value ≈ added_index_value names whole tree value
    terms-alike names whole whole' index.NoTerm value = refl
    terms-alike names whole whole' (index.Term sign at term rest) left =
        both _ _ _ _
        (both _ _ _ _ (product-alike names whole whole' term) (λ right. within-alike whole whole' (signed sign left right)))
        (λ value. terms-alike names whole whole' rest value)

    product-alike : (names : Names A) (whole whole' : ℕ) (tree : index.Product) → index_term_value names whole' (unplaced_product tree) ≈ index_term_value names whole tree
    product-alike names whole whole' (index.ProductOf first times) =
        both _ _ _ _ (factor-alike names whole whole' first) (λ value. factors-alike names whole whole' times value)

    factors-alike : (names : Names A) (whole whole' : ℕ) (tree : index.Factors) (value : ℤ) → times_index_value names whole' (unplaced_factors tree) value ≈ times_index_value names whole tree value
    factors-alike names whole whole' index.NoFactor value = refl
    factors-alike names whole whole' (index.Times at factor rest) left =
        both _ _ _ _
        (both _ _ _ _ (factor-alike names whole whole' factor) (λ right. within-alike whole whole' (left *ℤ right)))
        (λ value. factors-alike names whole whole' rest value)

    factor-alike : (names : Names A) (whole whole' : ℕ) (tree : index.Factor) → index_factor_value names whole' (unplaced_index_factor tree) ≈ index_factor_value names whole tree
    factor-alike names whole whole' (index.Number at value) = within-alike whole whole' (pos value)
    factor-alike names whole whole' (index.Name at number) = turn_of-alike whole whole' at 0 (binding_of number names)
    factor-alike names whole whole' (index.Parenthesized at inner) = sum-alike names whole whole' inner

  below-alike : (names : Names A) (tree : index.Sum) (dimension : ℕ) → index_below names (unplaced_sum tree) dimension ≈ index_below names tree dimension
  below-alike names tree dimension =
      both _ _ _ _ (sum-alike names (index_at tree) (index_at (unplaced_sum tree)) tree) (λ value. either (is_place value dimension) _ _ _ _ refl)

  indices-alike : (names : Names A) (at at' : ℕ) (second : Option index.Sum) (first : index.Sum) (shape : ShapeOf) →
      indices_at names at' (option_map unplaced_sum second) (unplaced_sum first) shape ≈ indices_at names at second first shape
  indices-alike names at at' None first Scalar = refl
  indices-alike names at at' None first (Vector n) = both _ _ _ _ (below-alike names first n) (λ row. refl)
  indices-alike names at at' None first (Matrix n m) = refl
  indices-alike names at at' (Some second) first Scalar = refl
  indices-alike names at at' (Some second) first (Vector n) = refl
  indices-alike names at at' (Some second) first (Matrix n m) =
      both _ _ _ _ (below-alike names first n) (λ row. both _ _ _ _ (below-alike names second m) (λ column. refl))

  element_at-alike : (names : Names A) (at at' : ℕ) (indices : IndicesTree) (binding : Option (Bound A)) → element_at names at' (unplaced_indices indices) binding ≈ element_at names at indices binding
  element_at-alike names at at' indices None = refl
  element_at-alike names at at' indices (Some (Turn number)) = refl
  element_at-alike names at at' indices (Some (Value shape array)) = both _ _ _ _ (indices-alike names at at' indices.second indices.first shape) (λ place. refl)

  bounds-alike : (names : Names A) (low high : index.Sum) → bounds_of names (unplaced_sum low) (unplaced_sum high) ≈ bounds_of names low high
  bounds-alike names low high =
      both _ _ _ _ (sum-alike names (index_at low) (index_at (unplaced_sum low)) low)
      (λ from. both _ _ _ _ (sum-alike names (index_at high) (index_at (unplaced_sum high)) high) (λ to. turns_of-alike (index_at low) (index_at (unplaced_sum low)) from to))

  free-alike : (at at' : ℕ) (binding : Option (Bound A)) → if_free at' binding ≈ if_free at binding
  free-alike at at' None = refl
  free-alike at at' (Some binding) = refl

  target-alike : (at at' : ℕ) (binding : Option (Bound A)) → target_shape at' binding ≈ target_shape at binding
  target-alike at at' None = refl
  target-alike at at' (Some (Turn number)) = refl
  target-alike at at' (Some (Value shape array)) = refl

of-alike : (shape : ShapeOf) (at at' : ℕ) (found : ShapeOf) → if_of shape at' found ≈ if_of shape at found
of-alike shape at at' found = either (same_shape shape found) _ _ _ _ refl

dimension-alike : (at at' size : ℕ) → dimension_of (record { at = at'; size = size }) ≈ dimension_of (record { at = at; size = size })
dimension-alike at at' size = either (nat_le 1 size && nat_le size 4096) _ _ _ _ refl

shape-alike : (tree : Dimensions) → input_shape (unplaced_dimensions tree) ≈ input_shape tree
shape-alike dimensions.Scalar = refl
shape-alike (dimensions.Vector n) = both _ _ _ _ (dimension-alike n.at 0 n.size) (λ n. refl)
shape-alike (dimensions.Matrix n m) = both _ _ _ _ (dimension-alike n.at 0 n.size) (λ n. both _ _ _ _ (dimension-alike m.at 0 m.size) (λ m. refl))

same_count : (further : ArgumentsTree) → count_of (unplaced_arguments further) ≡ count_of further
same_count NoArgument = refl
same_count (Argument argument rest) = ap suc (same_count rest)

module _ {A S : Type 0} (operations : Operations A S) where
  -- ---- expressions

  made-alike : (shaped shaped' : Shaped) (make : S → A × S) (kept : S) → shaped' ≈ shaped → made shaped' make kept ≈ made shaped make kept
  made-alike shaped shaped' make kept same = both _ _ _ _ same (λ found. refl)

  constant_value-alike : (at at' value : ℕ) (counts : Counts) (kept : S) → constant_value operations at' value counts kept ≈ constant_value operations at value counts kept
  constant_value-alike at at' value counts kept = made-alike _ _ (operations.constant value) kept (both _ _ _ _ (constant-alike at at' value counts) (λ counts. refl))

  bound-alike : (at at' : ℕ) (binding : Option (Bound A)) (counts : Counts) (kept : S) → bound_value operations at' binding counts kept ≈ bound_value operations at binding counts kept
  bound-alike at at' None counts kept = refl
  bound-alike at at' (Some (Turn number)) counts kept = constant_value-alike at at' number counts kept
  bound-alike at at' (Some (Value shape array)) counts kept = refl

  -- ---- calls

  -- calls that give the same, but for refusals
  abbrev IsAlike : Callable A S → Callable A S → Type 0
  IsAlike f g = (f.name ≡ g.name) × (f.parameters ≡ g.parameters) × ((names : Names A) (counts : Counts) (kept : S) → g.body names counts kept ≈ f.body names counts kept)

  abbrev AreAlike : Calls A S → Calls A S → Type 0
  AreAlike [] [] = Unit {0}
  AreAlike (f ∷ fs) (g ∷ gs) = IsAlike f g × AreAlike fs gs
  AreAlike fs gs = ⊥

  called-if : (here : Bool) (f g : Callable A S) (x y : Answer (Callable A S)) (next next' : Callable A S → Answer (Valued A S)) → next' g ≈ next f → (y >>= next') ≈ (x >>= next) →
      ((if here then Ok g else y) >>= next') ≈ ((if here then Ok f else x) >>= next)
  called-if true f g x y next next' found others = found
  called-if false f g x y next next' found others = others

  called-alike : (at at' name : ℕ) (fs gs : Calls A S) (next next' : Callable A S → Answer (Valued A S)) → AreAlike fs gs → ((f g : Callable A S) → IsAlike f g → next' g ≈ next f) → (called at' name gs >>= next') ≈ (called at name fs >>= next)
  called-alike at at' name [] [] next next' alike goes = refl
  called-alike at at' name [] (g ∷ gs) next next' alike goes = absurd alike
  called-alike at at' name (f ∷ fs) [] next next' alike goes = absurd alike
  called-alike at at' name (f ∷ fs) (g ∷ gs) next next' alike goes =
      ap (λ (n : ℕ). there ((if n == name then Ok g else called at' name gs) >>= next')) (sym alike.0.0)
      ∙ called-if (f.name == name) f g (called at name fs) (called at' name gs) next next' (goes f g alike.0) (called-alike at at' name fs gs next next' alike.1 goes)

  -- a call of what was found, with these parameters and these arguments
  abbrev fitting : Callable A S → List ℕ → ℕ → ℕ → Answer (Passed A S) → Answer (Valued A S)
  fitting f parameters at further x =
      if_as_many at (length parameters) (suc further) >>= λ fits. x >>= λ passed. step_at at passed.1 >>= λ counts. f.body (parameters_bound parameters passed.0) counts passed.2

  fitting-alike : (at at' further further' : ℕ) (f g : Callable A S) → IsAlike f g → further' ≡ further → (x y : Answer (Passed A S)) → y ≈ x → fitting g g.parameters at' further' y ≈ fitting f f.parameters at further x
  fitting-alike at at' further further' f g alike same x y given =
      (λ i. there (fitting g (sym alike.1 i) at' (same i) y))
      ∙ both _ _ _ _ (either (length f.parameters == suc further) _ _ _ _ refl) (λ fits.
      both _ _ _ _ given (λ passed.
      both _ _ _ _ (step-alike at at' passed.1) (λ counts. alike.2 (parameters_bound f.parameters passed.0) counts passed.2)))

  module _ (calls calls' : Calls A S) (alike : AreAlike calls calls') where
    mutual
      expression-alike : (tree : ExpressionTree) (names : Names A) (counts : Counts) (kept : S) → value_of operations calls' (unplaced_expression tree) names counts kept ≈ value_of operations calls tree names counts kept
      expression-alike (ExpressionOf first added) names counts kept = both _ _ _ _ (term-alike first names counts kept) (λ left. added-alike added names left)

      added-alike : (tree : AddedTree) (names : Names A) (left : Valued A S) → added_value operations calls' (unplaced_added tree) names left ≈ added_value operations calls tree names left
      added-alike NoTerm names left = refl
      added-alike (Added sign at term rest) names left =
          both _ _ _ _
          (both _ _ _ _ (term-alike term names left.2 left.3) (λ right. made-alike _ _ (operations.signed sign left.1 right.1) right.3 (sum_shape-alike sign at 0 left.0 right.0 right.2)))
          (λ left. added-alike rest names left)

      term-alike : (tree : TermTree) (names : Names A) (counts : Counts) (kept : S) → term_value operations calls' (unplaced_term tree) names counts kept ≈ term_value operations calls tree names counts kept
      term-alike (TermOf first times) names counts kept = both _ _ _ _ (value-alike first names counts kept) (λ left. times-alike times names left)

      times-alike : (tree : TimesTree) (names : Names A) (left : Valued A S) → times_value operations calls' (unplaced_times tree) names left ≈ times_value operations calls tree names left
      times-alike NoFactor names left = refl
      times-alike (Times at factor rest) names left =
          both _ _ _ _
          (both _ _ _ _ (value-alike factor names left.2 left.3) (λ right. made-alike _ _ (operations.product left.1 right.1) right.3 (product_shape-alike at 0 left.0 right.0 right.2)))
          (λ left. times-alike rest names left)

      value-alike : (tree : FactorTree) (names : Names A) (counts : Counts) (kept : S) → factor_value operations calls' (unplaced_factor tree) names counts kept ≈ factor_value operations calls tree names counts kept
      value-alike (Number at value) names counts kept = constant_value-alike at 0 value counts kept
      value-alike (Name name) names counts kept = bound-alike name.at 0 (binding_of name.number names) counts kept
      value-alike (Element name indices) names counts kept = both _ _ _ _ (element_at-alike names name.at 0 indices (binding_of name.number names)) (λ found. refl)
      value-alike (Negation at operand) names counts kept =
          both _ _ _ _ (value-alike operand names counts kept) (λ found. made-alike _ _ (operations.opposite found.1) found.3 (for_minus_one-alike at 0 (size_of found.0) found.0 found.2))
      value-alike (Parenthesized at inner) names counts kept = expression-alike inner names counts kept
      value-alike (Single function at parenthesis argument) names counts kept =
          both _ _ _ _ (expression-alike argument names counts kept) (λ found. made-alike _ _ (operations.single function found.0 found.1) found.3 (single_shape-alike function at 0 found.0 found.2))
      value-alike (Pair function at parenthesis left right) names counts kept =
          both _ _ _ _ (expression-alike left names counts kept) (λ left.
          both _ _ _ _ (expression-alike right names left.2 left.3) (λ right. made-alike _ _ (operations.pair function left.0 right.0 left.1 right.1) right.3 (pair_shape-alike function at 0 left.0 right.0 right.2)))
      value-alike (Call name parenthesis first further) names counts kept =
          called-alike name.at 0 name.number calls calls' _ _ alike (λ f g same.
          fitting-alike name.at 0 (count_of further) (count_of (unplaced_arguments further)) f g same (same_count further) _ _
          (both _ _ _ _ (both _ _ _ _ (expression-alike first names counts kept) (λ found. refl)) (λ passed. passed-alike further names passed)))

      passed-alike : (tree : ArgumentsTree) (names : Names A) (passed : Passed A S) → passed_value operations calls' (unplaced_arguments tree) names passed ≈ passed_value operations calls tree names passed
      passed-alike NoArgument names passed = refl
      passed-alike (Argument argument rest) names passed =
          both _ _ _ _ (both _ _ _ _ (expression-alike argument names passed.1 passed.2) (λ found. refl)) (λ more. passed-alike rest names more)

  numbers-alike : (names : List NameTree) → map (λ (name : NameTree). name.number) (map unplaced_name names) ≡ map (λ (name : NameTree). name.number) names
  numbers-alike [] = refl
  numbers-alike (name ∷ names) = ap (λ numbers. name.number ∷ numbers) (numbers-alike names)

  calls-alike : (definitions : List DefinitionTree) → AreAlike (callables operations definitions) (callables operations (map unplaced_definition definitions))
  calls-alike [] = tt
  calls-alike (definition ∷ earlier) = (
    (
      refl,
      sym (numbers-alike definition.parameters),
      λ names counts kept. expression-alike (callables operations earlier) (callables operations (map unplaced_definition earlier)) (calls-alike earlier) definition.body names counts kept,
    ),
    calls-alike earlier,
  )

  -- ---- statements

  stepped-alike : (at at' : ℕ) (go_on go_on' : State A S → Answer (State A S)) (before : State A S) → ((after : State A S) → go_on' after ≈ go_on after) → stepped operations at' go_on' before ≈ stepped operations at go_on before
  stepped-alike at at' go_on go_on' before same = both _ _ _ _ (step-alike at at' before.counts) (λ counts. same (state before.names counts before.kept))

  turns-alike : (left turn : ℕ) (body body' : ℕ → State A S → Answer (State A S)) (before : State A S) → ((turn : ℕ) (before : State A S) → body' turn before ≈ body turn before) →
      turns operations left turn body' before ≈ turns operations left turn body before
  turns-alike zero turn body body' before same = refl
  turns-alike (suc left) turn body body' before same = both _ _ _ _ (same turn before) (λ after. turns-alike left (turn + 1) body body' after same)

  among-alike : (number : ℕ) (names : List NameTree) → is_among number (map unplaced_name names) ≡ is_among number names
  among-alike number [] = refl
  among-alike number (name ∷ names) = ap (λ rest. (name.number == number) || rest) (among-alike number names)

  defined-alike : (number : ℕ) (definitions : List DefinitionTree) → is_defined number (map unplaced_definition definitions) ≡ is_defined number definitions
  defined-alike number [] = refl
  defined-alike number (definition ∷ earlier) = ap (λ rest. (definition.name.number == number) || rest) (defined-alike number earlier)

  taken-or : (taken : Bool) (refused refused' : CheckRefused) (x y : Answer (Unit {0})) → y ≈ x → (if taken then Err refused' else y) ≈ (if taken then Err refused else x)
  taken-or true refused refused' x y same = refl
  taken-or false refused refused' x y same = same

  new-alike : (name : NameTree) (definitions : List DefinitionTree) (names : Names A) → if_new (unplaced_name name) names (map unplaced_definition definitions) ≈ if_new name names definitions
  new-alike name definitions names =
      ap (λ b. there (if b then Err (Bad 0 kinds.Taken) else if_free 0 (bound name names))) (defined-alike name.number definitions)
      ∙ taken-or (is_defined name.number definitions) _ _ _ _ (free-alike name.at 0 (bound name names))

  apart-alike : (name : NameTree) (others : List NameTree) → if_apart (unplaced_name name) (map unplaced_name others) ≈ if_apart name others
  apart-alike name others =
      ap (λ b. there (if b then Err (Bad 0 kinds.Taken) else Ok tt)) (among-alike name.number others) ∙ taken-or (is_among name.number others) _ _ _ _ refl

  parameters-alike : (others parameters : List NameTree) (definitions : List DefinitionTree) (names : Names A) →
      if_parameters (map unplaced_name others) (map unplaced_name parameters) names (map unplaced_definition definitions) ≈ if_parameters others parameters names definitions
  parameters-alike others [] definitions names = refl
  parameters-alike others (parameter ∷ parameters) definitions names =
      both _ _ _ _ (apart-alike parameter others) (λ apart.
      both _ _ _ _ (new-alike parameter definitions names) (λ free.
      ap (λ before. there (if_parameters before (map unplaced_name parameters) names (map unplaced_definition definitions))) (sym (map-append unplaced_name others (parameter ∷ [])))
      ∙ parameters-alike (others ++ parameter ∷ []) parameters definitions names))

  module _ (definitions : List DefinitionTree) where
    loop-alike : (at : ℕ) (name : NameTree) (low high : index.Sum) (body body' : State A S → Answer (State A S)) (before : State A S) → ((before : State A S) → body' before ≈ body before) →
        counted_loop operations (map unplaced_definition definitions) 0 (unplaced_name name) (unplaced_sum low) (unplaced_sum high) body' before ≈ counted_loop operations definitions at name low high body before
    loop-alike at name low high body body' before same =
        both _ _ _ _ (new-alike name definitions before.names) (λ free.
        both _ _ _ _ (bounds-alike before.names low high) (λ bounds.
        turns-alike (bounds.1 - bounds.0) bounds.0 (one_turn operations at name body) (one_turn operations 0 (unplaced_name name) body') before (λ turn before.
        both _ _ _ _ (step-alike at 0 before.counts) (λ counts.
        both _ _ _ _ (same (state (with_name name.number (Turn turn) before.names) counts before.kept)) (λ after. refl)))))

    mutual
      statement-alike : (tree : StatementTree) (before : State A S) → after_statement operations (map unplaced_definition definitions) (unplaced_statement tree) before ≈ after_statement operations definitions tree before
      statement-alike (Let at name value) before =
          stepped-alike at 0 (declared operations definitions name value) (declared operations (map unplaced_definition definitions) (unplaced_name name) (unplaced_expression value)) before (λ after.
          both _ _ _ _ (new-alike name definitions after.names) (λ free.
          both _ _ _ _ (expression-alike (callables operations definitions) (callables operations (map unplaced_definition definitions)) (calls-alike definitions) value after.names after.counts after.kept) (λ found. refl)))
      statement-alike (Set name value) before =
          stepped-alike name.at 0 (assigned operations definitions name value) (assigned operations (map unplaced_definition definitions) (unplaced_name name) (unplaced_expression value)) before (λ after.
          both _ _ _ _ (target-alike name.at 0 (bound name after.names)) (λ shape.
          both _ _ _ _ (expression-alike (callables operations definitions) (callables operations (map unplaced_definition definitions)) (calls-alike definitions) value after.names after.counts after.kept) (λ found.
          both _ _ _ _ (of-alike shape (expression_at value) (expression_at (unplaced_expression value)) found.0) (λ fits. refl))))
      statement-alike (SetElement name indices value) before =
          stepped-alike name.at 0 (element_assigned operations definitions name indices value) (element_assigned operations (map unplaced_definition definitions) (unplaced_name name) (unplaced_indices indices) (unplaced_expression value)) before (λ after.
          both _ _ _ _ (target-alike name.at 0 (bound name after.names)) (λ shape.
          both _ _ _ _ (indices-alike after.names name.at 0 indices.second indices.first shape) (λ place.
          both _ _ _ _ (expression-alike (callables operations definitions) (callables operations (map unplaced_definition definitions)) (calls-alike definitions) value after.names after.counts after.kept) (λ found.
          both _ _ _ _ (of-alike Scalar (expression_at value) (expression_at (unplaced_expression value)) found.0) (λ fits. refl)))))
      statement-alike (For at name low high body) before =
          stepped-alike at 0 (counted_loop operations definitions at name low high (after_block operations definitions body))
          (counted_loop operations (map unplaced_definition definitions) 0 (unplaced_name name) (unplaced_sum low) (unplaced_sum high) (after_block operations (map unplaced_definition definitions) (unplaced_block body))) before
          (λ after. loop-alike at name low high (after_block operations definitions body) (after_block operations (map unplaced_definition definitions) (unplaced_block body)) after (λ before. block-alike body before))

      block-alike : (tree : BlockTree) (before : State A S) → after_block operations (map unplaced_definition definitions) (unplaced_block tree) before ≈ after_block operations definitions tree before
      block-alike EndOfBlock before = refl
      block-alike (Then statement rest) before = both _ _ _ _ (statement-alike statement before) (λ after. block-alike rest after)

    -- ---- programs

    top-alike : (tree : TopTree) (before : State A S) → after_top operations (map unplaced_definition definitions) (unplaced_top tree) before ≈ after_top operations definitions tree before
    top-alike (Output at value) before =
        both _ _ _ _ (step-alike at 0 before.counts) (λ counts.
        both _ _ _ _ (expression-alike (callables operations definitions) (callables operations (map unplaced_definition definitions)) (calls-alike definitions) value before.names counts before.kept) (λ found.
        both _ _ _ _ (outputs-alike at 0 (size_of found.0) found.2) (λ counts. refl)))
    top-alike (Inner statement) before = statement-alike statement before

  definition-alike : (earlier : List DefinitionTree) (definition : DefinitionTree) (before : State A S) → after_definition (map unplaced_definition earlier) (unplaced_definition definition) before ≈ after_definition earlier definition before
  definition-alike earlier definition before =
      both _ _ _ _ (step-alike definition.at 0 before.counts) (λ counts.
      both _ _ _ _ (few-alike definition.at earlier) (λ few.
      both _ _ _ _ (new-alike definition.name earlier before.names) (λ free.
      both _ _ _ _ (parameters-alike (definition.name ∷ []) definition.parameters earlier before.names) (λ apart. refl))))
    where
      few-alike : (at : ℕ) (earlier : List DefinitionTree) → if_few 0 (map unplaced_definition earlier) ≈ if_few at earlier
      few-alike at earlier = ap (λ n. there (if nat_lt n 64 then Ok tt else Err (Bad 0 kinds.Defs))) (length-map earlier unplaced_definition) ∙ either (nat_lt (length earlier) 64) _ _ _ _ refl

  definitions-alike : (earlier definitions : List DefinitionTree) (before : State A S) → after_definitions (map unplaced_definition earlier) (map unplaced_definition definitions) before ≈ after_definitions earlier definitions before
  definitions-alike earlier [] before = refl
  definitions-alike earlier (definition ∷ definitions) before = both _ _ _ _ (definition-alike earlier definition before) (λ after. definitions-alike (definition ∷ earlier) definitions after)

  input-alike : (tree : InputTree) (before : State A S) → after_input operations (unplaced_input tree) before ≈ after_input operations tree before
  input-alike tree before =
      both _ _ _ _ (step-alike tree.at 0 before.counts) (λ counts.
      both _ _ _ _ (free-alike tree.name.at 0 (bound tree.name before.names)) (λ free.
      both _ _ _ _ (shape-alike tree.dimensions) (λ shape.
      both _ _ _ _ (nodes-alike tree.name.at 0 (size_of shape) counts) (λ counts. refl))))

  each-alike : {X : Type 0} (step step' : X → State A S → Answer (State A S)) (forget : X → X) → ((x : X) (before : State A S) → step' (forget x) before ≈ step x before) → (xs : List X) (before : State A S) →
      each step' (map forget xs) before ≈ each step xs before
  each-alike step step' forget same [] before = refl
  each-alike step step' forget same (x ∷ xs) before = both _ _ _ _ (same x before) (λ after. each-alike step step' forget same xs after)

  any-alike : (end end' : ℕ) (after : State A S) → if_any_output end' after ≈ if_any_output end after
  any-alike end end' after = by (after.counts.outputs == 0)
    where
      by : (none : Bool) → (if none then Err (Bad end' kinds.NoOutput) else Ok after) ≈ (if none then Err (Bad end kinds.NoOutput) else Ok after)
      by true = refl
      by false = refl

  -- a run goes through for a program without its places exactly where it does with them, and leaves the same
  end-alike : (lang : Lang) (tree : ProgramTree) (kept : S) → end_of operations lang (unplaced tree) kept ≈ end_of operations lang tree kept
  end-alike lang tree kept =
      both _ _ _ _
      (both _ _ _ _
      (both _ _ _ _
      (both _ _ _ _ (each-alike (after_input operations) (after_input operations) unplaced_input input-alike tree.inputs (state [] (none_counted lang) kept)) (λ after. definitions-alike [] tree.definitions after))
      (λ after.
      ap (λ definitions. there (each (after_top operations definitions) (map unplaced_top tree.statements) after)) (reversed tree.definitions)
      ∙ each-alike (after_top operations (reverse tree.definitions)) (after_top operations (map unplaced_definition (reverse tree.definitions))) unplaced_top (top-alike (reverse tree.definitions)) tree.statements after))
      (λ after. any-alike tree.end 0 after))
      (λ after. refl)
    where
      reversed : (definitions : List DefinitionTree) → reverse (map unplaced_definition definitions) ≡ map unplaced_definition (reverse definitions)
      reversed [] = refl
      reversed (definition ∷ definitions) =
          reverse-append (unplaced_definition definition ∷ []) (map unplaced_definition definitions)
          ∙ ap (λ rest. rest ++ unplaced_definition definition ∷ []) (reversed definitions)
          ∙ sym (map-append unplaced_definition (reverse definitions) (definition ∷ []))
          ∙ ap (map unplaced_definition) (sym (reverse-append (definition ∷ []) definitions))

outputs-there : (x y : Answer (Counts × Kept)) → x ≈ y → outputs_of x ≡ outputs_of y
outputs-there (Ok x) (Ok y) same = let equal : ◌≡◌ {A = Counts × Kept} x y = cc in ap (λ (end : Counts × Kept). Some end.1.outputs) equal
outputs-there (Err refused) (Err other) same = refl
outputs-there (Ok x) (Err refused) same = cc
outputs-there (Err refused) (Ok y) same = cc

unplaced-meaning : (lang : Lang) (tree : ProgramTree) (inputs : List F) → meaning lang (unplaced tree) inputs ≡ meaning lang tree inputs
unplaced-meaning lang tree inputs =
    outputs-there (end_of numbers lang (unplaced tree) (record { inputs = inputs; outputs = [] })) (end_of numbers lang tree (record { inputs = inputs; outputs = [] })) (end-alike numbers lang tree (record { inputs = inputs; outputs = [] }))

pub places_play_no_part : (lang : Lang) (a b : ProgramTree) → unplaced a ≡ unplaced b → (inputs : List F) → meaning lang a inputs ≡ meaning lang b inputs
places_play_no_part lang a b same inputs = sym (unplaced-meaning lang a inputs) ∙ ap (λ tree. meaning lang tree inputs) same ∙ unplaced-meaning lang b inputs
