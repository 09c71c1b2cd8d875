-- What a run does at one link of a chain: rows of the definitions once more, each by itself.
-- Contracts of private functions alone speak of them, so nobody has to read them to know what a run is.
use Rattle.std.specs.Prelude.{ℕ, ◌==◌, List, [], ◌∷◌, reverse, map, take, drop, Option, Some, None, Ok, Err, if◌then◌else◌}
use Rattle.arr_ast.specs.declared.program.Definition.{Definition}
use Rattle.arr_ast.specs.declared.expression.Expression.{Expression}
use Rattle.arr_ast.specs.declared.expression.AddedTerm.{AddedTerm, AddedTerm'}
use Rattle.arr_ast.specs.declared.expression.TimesFactor.{TimesFactor}
use Rattle.arr_ast.specs.ExpressionTree.{ExpressionTree, expression_tree, term_tree, factor_tree}
use Rattle.arr_ast.specs.ProgramTree.{DefinitionTree, definition_tree}
use Rattle.arr_scope.specs.declared.refused.CheckKind.TheVariants.{Unknown}
use Rattle.arr_scope.specs.declared.refused.CheckRefused.TheVariants.{Bad}
use Rattle.arr_scope.specs.Agrees.{Answer, ◌>>=◌}
use Rattle.arr_run.specs.Definitions.{callable, callables}
use Rattle.arr_run.specs.Expression.{Valued, Callable, Calls, Passed, with_argument, value_of, term_value, factor_value, signed_value, product_value}
use Rattle.arr_run.specs.Operations.{Operations}
use Rattle.arr_scope.specs.Scope.{Names}

-- the trees of a slice's definitions, the newest first
abbrev pub newest_first : List Definition → List DefinitionTree
newest_first definitions = reverse (map definition_tree definitions)

-- what calls of a slice's definitions run
abbrev pub calls_of : {A S : Type 0} → Operations A S → List Definition → Calls A S
calls_of operations definitions = callables operations (newest_first definitions)

-- the definition of a name, and those before it
abbrev pub definition_named : ℕ → List DefinitionTree
    → Option (DefinitionTree × List DefinitionTree)
definition_named name [] = None
definition_named name (definition ∷ earlier) =
    if definition.name.number == name then Some (definition, earlier)
    else definition_named name earlier

-- the first definition, and those before it
abbrev pub first_after : List Definition → List Definition
    → Option (DefinitionTree × List DefinitionTree)
first_after earlier [] = None
first_after earlier (definition ∷ rest) = Some (definition_tree definition, newest_first earlier)

-- the definition at a place, and those before it
abbrev pub definition_at : ℕ → List Definition → Option (DefinitionTree × List DefinitionTree)
definition_at place definitions = first_after (take place definitions) (drop place definitions)

module _ {A S : Type 0} (operations : Operations A S) where
  -- what a call of a found definition runs
  abbrev pub callable_of : ℕ → Option (DefinitionTree × List DefinitionTree) → Answer (Callable A S)
  callable_of at None = Err (Bad at Unknown)
  callable_of at (Some found) = Ok (callable operations (callables operations found.1) found.0)

module _ {A S : Type 0} (operations : Operations A S) (calls : Calls A S) where
  abbrev pub added_term_value : AddedTerm → Names A → Valued A S → Answer (Valued A S)
  added_term_value (AddedTerm' sign at term) names left =
      term_value operations calls (term_tree term) names left.2 left.3 >>=
      signed_value operations sign at left

  abbrev pub added_values : List AddedTerm → Names A → Valued A S → Answer (Valued A S)
  added_values [] names left = Ok left
  added_values (term ∷ terms) names left =
      added_term_value term names left >>= added_values terms names

  abbrev pub times_factor_value : TimesFactor → Names A → Valued A S → Answer (Valued A S)
  times_factor_value times names left =
      factor_value operations calls (factor_tree times.factor) names left.2 left.3 >>=
      product_value operations times.at left

  abbrev pub times_values : List TimesFactor → Names A → Valued A S → Answer (Valued A S)
  times_values [] names left = Ok left
  times_values (times ∷ factors) names left =
      times_factor_value times names left >>= times_values factors names

  -- one argument after those that were passed
  abbrev pub argument_value : ExpressionTree → Names A → Passed A S → Answer (Passed A S)
  argument_value argument names passed =
      value_of operations calls argument names passed.1 passed.2 >>= λ found.
      Ok (with_argument passed.0 found)

  abbrev pub argument_values : List Expression → Names A → Passed A S → Answer (Passed A S)
  argument_values [] names passed = Ok passed
  argument_values (argument ∷ arguments) names passed =
      argument_value (expression_tree argument) names passed >>= argument_values arguments names
