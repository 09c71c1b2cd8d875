-- Definitions: what their calls run, and which names they take.
use Rattle.std.specs.Prelude.{ℕ, ◌==◌, Bool, false, ◌||◌, List, [], ◌∷◌, ◌++◌, length, map, Ok, Err, nat_lt, if◌then◌else◌}
use Rattle.arr_ast.specs.ExpressionTree.{NameTree}
use Rattle.arr_ast.specs.ProgramTree.{DefinitionTree}
use Rattle.arr_scope.specs.declared.refused.CheckKind.TheVariants.{Defs, Taken}
use Rattle.arr_scope.specs.declared.refused.CheckRefused.TheVariants.{Bad}
use Rattle.arr_scope.specs.Agrees.{Answer, ◌>>=◌}
use Rattle.arr_scope.specs.Counting.{step_at}
use Rattle.arr_run.specs.Expression.{Callable, Calls, value_of}
use Rattle.arr_scope.specs.Limits.{most_definitions}
use Rattle.arr_run.specs.Operations.{Operations}
use Rattle.arr_scope.specs.Scope.{Names}
use Rattle.arr_run.specs.State.{State, state, bound, if_free}

module _ {A S : Type 0} (operations : Operations A S) where
  -- what a call of a definition runs, where these may be called in its body
  abbrev pub callable : Calls A S → DefinitionTree → Callable A S
  callable calls definition = record {
    name = definition.name.number;
    parameters = map (λ (parameter : NameTree). parameter.number) definition.parameters;
    body = value_of operations calls definition.body;
  }

  -- definitions with the newest first: in the body of one those before it may be called
  abbrev pub callables : List DefinitionTree → Calls A S
  callables [] = []
  callables (definition ∷ earlier) =
      callable (callables earlier) definition ∷ callables earlier

-- whether a number is that of one of these names
abbrev pub is_among : ℕ → List NameTree → Bool
is_among number [] = false
is_among number (name ∷ names) = (name.number == number) || is_among number names

abbrev pub is_defined : ℕ → List DefinitionTree → Bool
is_defined number [] = false
is_defined number (definition ∷ earlier) =
    (definition.name.number == number) || is_defined number earlier

-- a name that isn't in scope, and that no definition has
abbrev pub if_new : {A : Type 0} → NameTree → Names A → List DefinitionTree → Answer (Unit {0})
if_new name names definitions =
    if is_defined name.number definitions then Err (Bad name.at Taken)
    else if_free name.at (bound name names)

-- room for one definition more
abbrev pub if_few : ℕ → List DefinitionTree → Answer (Unit {0})
if_few at earlier = if nat_lt (length earlier) most_definitions then Ok tt else Err (Bad at Defs)

-- a name that isn't among these
abbrev pub if_apart : NameTree → List NameTree → Answer (Unit {0})
if_apart name others = if is_among name.number others then Err (Bad name.at Taken) else Ok tt

-- parameters that aren't these names, nor one another, and that are new
abbrev pub if_parameters : {A : Type 0} → List NameTree → List NameTree → Names A
    → List DefinitionTree → Answer (Unit {0})
if_parameters others [] names earlier = Ok tt
if_parameters others (parameter ∷ parameters) names earlier =
    if_apart parameter others >>= λ apart. if_new parameter names earlier >>= λ free.
    if_parameters (others ++ parameter ∷ []) parameters names earlier

-- A definition is one step. Its body isn't run.
abbrev pub after_definition : {A S : Type 0} → List DefinitionTree → DefinitionTree → State A S
    → Answer (State A S)
after_definition earlier definition before =
    step_at definition.at before.counts >>= λ counts.
    if_few definition.at earlier >>= λ few.
    if_new definition.name before.names earlier >>= λ free.
    if_parameters (definition.name ∷ []) definition.parameters before.names earlier >>= λ apart.
    Ok (state before.names counts before.kept)

-- definitions in the order of the text, after the earlier ones, of which the newest is first
abbrev pub after_definitions : {A S : Type 0} → List DefinitionTree → List DefinitionTree
    → State A S → Answer (State A S)
after_definitions earlier [] before = Ok before
after_definitions earlier (definition ∷ definitions) before =
    after_definition earlier definition before >>=
    after_definitions (definition ∷ earlier) definitions
