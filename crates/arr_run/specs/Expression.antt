-- The values of expressions: a shape and an array, and what is counted and kept after it.
use Rattle.std.specs.Prelude.{ℕ, suc, ◌==◌, List, [], ◌∷◌, ◌++◌, length, if◌then◌else◌, Option, Some, None, Ok, Err}
use Rattle.arr_ast.specs.declared.expression.Sign.{Sign}
use Rattle.arr_ast.specs.declared.expression.SingleFunction.{SingleFunction}
use Rattle.arr_ast.specs.declared.expression.PairFunction.{PairFunction}
use Rattle.arr_ast.specs.ExpressionTree.{IndicesTree, ExpressionTree, ExpressionOf, AddedTree, NoTerm, Added, TermTree, TermOf, TimesTree, NoFactor, Times, FactorTree, Number, Name, Element, Negation, Parenthesized, Single, Pair, Call, ArgumentsTree, NoArgument, Argument}
use Rattle.arr_ast.specs.declared.shape.ShapeOf.{ShapeOf}
use Rattle.arr_ast.specs.declared.shape.ShapeOf.TheVariants.{Scalar}
use Rattle.arr_scope.specs.declared.bound.Bound.{Bound}
use Rattle.arr_scope.specs.declared.bound.Bound.TheVariants.{Value, Turn}
use Rattle.arr_scope.specs.declared.counts.Counts.{Counts}
use Rattle.arr_scope.specs.declared.refused.CheckKind.TheVariants.{Unknown, Shape}
use Rattle.arr_scope.specs.declared.refused.CheckRefused.TheVariants.{Bad}
use Rattle.arr_scope.specs.Agrees.{Answer, ◌>>=◌}
use Rattle.arr_scope.specs.Counting.{constant_at, step_at}
use Rattle.arr_scope.specs.Element.{indices_at, offset}
use Rattle.arr_run.specs.Operations.{Operations}
use Rattle.arr_scope.specs.Scope.{Names, binding_of}
use Rattle.arr_scope.specs.Shape.{Shaped, size_of, for_minus_one, sum_shape, product_shape, single_shape, pair_shape}

-- a shape and an array, and what is counted and kept after it
abbrev pub Valued : Type 0 → Type 0 → Type 0
Valued A S = ShapeOf × A × Counts × S

-- What a call of a definition runs: the names of its parameters by their numbers, and its body, over what names stand for.
pub record Callable (A S : Type 0) : Type 0 where
  pub name : ℕ
  pub parameters : List ℕ
  pub body : Names A → Counts → S → Answer (Valued A S)

-- the definitions that may be called, the newest first
abbrev pub Calls : Type 0 → Type 0 → Type 0
Calls A S = List (Callable A S)

-- the definition of a name
abbrev pub called : {A S : Type 0} → ℕ → ℕ → Calls A S → Answer (Callable A S)
called at name [] = Err (Bad at Unknown)
called at name (callable ∷ earlier) =
    if callable.name == name then Ok callable else called at name earlier

-- as many arguments as parameters
abbrev pub if_as_many : ℕ → ℕ → ℕ → Answer (Unit {0})
if_as_many at parameters arguments =
    if parameters == arguments then Ok tt else Err (Bad at Shape)

abbrev pub count_of : ArgumentsTree → ℕ
count_of NoArgument = 0
count_of (Argument argument rest) = suc (count_of rest)

-- the values of arguments, and what is counted and kept after them
abbrev pub Passed : Type 0 → Type 0 → Type 0
Passed A S = List (ShapeOf × A) × Counts × S

abbrev pub with_argument : {A S : Type 0} → List (ShapeOf × A) → Valued A S → Passed A S
with_argument earlier found = (earlier ++ (found.0, found.1) ∷ [], found.2, found.3)

-- each parameter stands for its argument's value
abbrev pub parameters_bound : {A : Type 0} → List ℕ → List (ShapeOf × A) → Names A
parameters_bound [] values = []
parameters_bound (parameter ∷ parameters) [] = []
parameters_bound (parameter ∷ parameters) (found ∷ values) =
    (parameter, Value found.0 found.1) ∷ parameters_bound parameters values

-- a call is a step, and then its body
abbrev pub call_value : {A S : Type 0} → ℕ → Callable A S → Passed A S → Answer (Valued A S)
call_value at callable passed =
    step_at at passed.1 >>= λ counts.
    callable.body (parameters_bound callable.parameters passed.0) counts passed.2

-- a shape that fits, and the array that is made
abbrev pub made : {A S : Type 0} → Shaped → (S → A × S) → S → Answer (Valued A S)
made shaped make kept = shaped >>= λ found. Ok (found.0, (make kept).0, found.1, (make kept).1)

-- an element of a name: its array, and its place there
abbrev pub element_at : {A : Type 0} → Names A → ℕ → IndicesTree → Option (Bound A)
    → Answer (A × ℕ)
element_at names at indices None = Err (Bad at Unknown)
element_at names at indices (Some (Turn number)) = Err (Bad at Shape)
element_at names at indices (Some (Value shape array)) =
    indices_at names at indices.second indices.first shape >>= λ place.
    Ok (array, offset shape place)

module _ {A S : Type 0} (operations : Operations A S) where
  abbrev pub constant_value : ℕ → ℕ → Counts → S → Answer (Valued A S)
  constant_value at value counts kept =
      made (constant_at at value counts >>= λ counts. Ok (Scalar, counts))
      (operations.constant value) kept

  -- what a name stands for; a loop variable is a constant
  abbrev pub bound_value : ℕ → Option (Bound A) → Counts → S → Answer (Valued A S)
  bound_value at None counts kept = Err (Bad at Unknown)
  bound_value at (Some (Turn number)) counts kept = constant_value at number counts kept
  bound_value at (Some (Value shape array)) counts kept = Ok (shape, array, counts, kept)

  abbrev pub element_value : Names A → ℕ → IndicesTree → Option (Bound A) → Counts → S
      → Answer (Valued A S)
  element_value names at indices bound counts kept =
      element_at names at indices bound >>= λ found.
      Ok (Scalar, operations.element found.0 found.1, counts, kept)

  abbrev pub signed_value : Sign → ℕ → Valued A S → Valued A S → Answer (Valued A S)
  signed_value sign at left right =
      made (sum_shape sign at left.0 right.0 right.2) (operations.signed sign left.1 right.1)
      right.3

  abbrev pub product_value : ℕ → Valued A S → Valued A S → Answer (Valued A S)
  product_value at left right =
      made (product_shape at left.0 right.0 right.2) (operations.product left.1 right.1) right.3

  abbrev pub opposite_value : ℕ → Valued A S → Answer (Valued A S)
  opposite_value at found =
      made (for_minus_one at (size_of found.0) found.0 found.2) (operations.opposite found.1)
      found.3

  abbrev pub single_value : SingleFunction → ℕ → Valued A S → Answer (Valued A S)
  single_value function at found =
      made (single_shape function at found.0 found.2)
      (operations.single function found.0 found.1) found.3

  abbrev pub pair_value : PairFunction → ℕ → Valued A S → Valued A S → Answer (Valued A S)
  pair_value function at left right =
      made (pair_shape function at left.0 right.0 right.2)
      (operations.pair function left.0 right.0 left.1 right.1) right.3

  abbrev mutual
    pub value_of : Calls A S → ExpressionTree → Names A → Counts → S → Answer (Valued A S)
    value_of calls (ExpressionOf first added) names counts kept =
        term_value calls first names counts kept >>= added_value calls added names

    pub added_value : Calls A S → AddedTree → Names A → Valued A S → Answer (Valued A S)
    added_value calls NoTerm names left = Ok left
    added_value calls (Added sign at term rest) names left =
        (term_value calls term names left.2 left.3 >>= signed_value sign at left) >>=
        added_value calls rest names

    pub term_value : Calls A S → TermTree → Names A → Counts → S → Answer (Valued A S)
    term_value calls (TermOf first times) names counts kept =
        factor_value calls first names counts kept >>= times_value calls times names

    pub times_value : Calls A S → TimesTree → Names A → Valued A S → Answer (Valued A S)
    times_value calls NoFactor names left = Ok left
    times_value calls (Times at factor rest) names left =
        (factor_value calls factor names left.2 left.3 >>= product_value at left) >>=
        times_value calls rest names

    pub factor_value : Calls A S → FactorTree → Names A → Counts → S → Answer (Valued A S)
    factor_value calls (Number at value) names counts kept = constant_value at value counts kept
    factor_value calls (Name name) names counts kept =
        bound_value name.at (binding_of name.number names) counts kept
    factor_value calls (Element name indices) names counts kept =
        element_value names name.at indices (binding_of name.number names) counts kept
    factor_value calls (Negation at operand) names counts kept =
        factor_value calls operand names counts kept >>= opposite_value at
    factor_value calls (Parenthesized at inner) names counts kept =
        value_of calls inner names counts kept
    factor_value calls (Single function at parenthesis argument) names counts kept =
        value_of calls argument names counts kept >>= single_value function at
    factor_value calls (Pair function at parenthesis left right) names counts kept =
        value_of calls left names counts kept >>= λ left.
        value_of calls right names left.2 left.3 >>= pair_value function at left
    factor_value calls (Call name parenthesis first further) names counts kept =
        called name.at name.number calls >>= λ callable.
        if_as_many name.at (length callable.parameters) (suc (count_of further)) >>= λ fits.
        (value_of calls first names counts kept >>= λ found. Ok (with_argument [] found)) >>=
        passed_value calls further names >>= call_value name.at callable

    -- the arguments after those that were passed, in order
    pub passed_value : Calls A S → ArgumentsTree → Names A → Passed A S → Answer (Passed A S)
    passed_value calls NoArgument names passed = Ok passed
    passed_value calls (Argument argument rest) names passed =
        (value_of calls argument names passed.1 passed.2 >>= λ found.
        Ok (with_argument passed.0 found)) >>= passed_value calls rest names
