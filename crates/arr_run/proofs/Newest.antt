-- Definitions of a slice with the newest first, and the one that a name calls.
use Rattle.std.proofs.Common.{◌≡◌, ℕ, ◌+◌, ◌<◌, List, [], ◌∷◌, ◌++◌, length, get_or, take, drop, map, reverse, Option, Some, None, Ok, Err, refl, sym, ap, ◌∙◌, arith, length-drop}
use Rattle.std.specs.Prelude.{if◌then◌else◌, Bool, true, false, ◌||◌, ◌==◌, is_some, IfSome, IfNone}
use Rattle.std.proofs.lemmas.List.{map-append, reverse-append, length-map, take_more, drop_more}
use Rattle.arr_ast.specs.ExpressionTree.{NameTree}
use Rattle.arr_ast.specs.ProgramTree.{DefinitionTree, definition_tree}
use Rattle.arr_ast.specs.declared.program.Definition.{Definition}
use Rattle.arr_scope.specs.Agrees.{Answer, ◌>>=◌}
use Rattle.arr_run.specs.Definitions.{callable, callables, is_defined, after_definition, after_definitions}
use Rattle.arr_run.specs.Expression.{Callable, called, if_as_many}
use Rattle.arr_run.specs.Operations.{Operations}
use Rattle.arr_run.specs.State.{State}
use Rattle.arr_run.specs.Steps.{newest_first, definition_named, first_after, definition_at, callable_of}
use Rattle.arr_run.specs.Tasks.{named_with}

pub newest-last : (earlier : List Definition) (last : Definition) → newest_first (earlier ++ last ∷ []) ≡ definition_tree last ∷ newest_first earlier
newest-last earlier last = ap reverse (map-append definition_tree earlier (last ∷ [])) ∙ reverse-append (map definition_tree earlier) (definition_tree last ∷ [])

pub newest-more : (definitions : List Definition) (place : ℕ) (d : Definition) → place < length definitions →
    newest_first (take (place + 1) definitions) ≡ definition_tree (get_or definitions place d) ∷ newest_first (take place definitions)
newest-more definitions place d h = ap newest_first (take_more definitions place d h) ∙ newest-last (take place definitions) (get_or definitions place d)

-- definitions one after another
pub definitions-more : {A S : Type 0} (definitions : List Definition) (place : ℕ) (d : Definition) (before : State A S) → place < length definitions →
    after_definitions (newest_first (take place definitions)) (map definition_tree (drop place definitions)) before ≡
    (after_definition (newest_first (take place definitions)) (definition_tree (get_or definitions place d)) before >>=
    after_definitions (newest_first (take (place + 1) definitions)) (map definition_tree (drop (place + 1) definitions)))
definitions-more definitions place d before h =
    let one = definition_tree (get_or definitions place d) in
    ap (λ (these : List Definition). after_definitions (newest_first (take place definitions)) (map definition_tree these) before) (drop_more definitions place d h)
    ∙ ap (λ (earlier : List DefinitionTree). after_definition (newest_first (take place definitions)) one before >>= after_definitions earlier (map definition_tree (drop (place + 1) definitions))) (sym (newest-more definitions place d h))

defined_by : (here other : Bool) (found : DefinitionTree × List DefinitionTree) (rest : Option (DefinitionTree × List DefinitionTree)) → other ≡ is_some rest → (here || other) ≡ is_some (if here then Some found else rest)
defined_by true other found rest e = refl
defined_by false other found rest e = e

pub defined-named : (name : ℕ) (definitions : List DefinitionTree) → is_defined name definitions ≡ is_some (definition_named name definitions)
defined-named name [] = refl
defined-named name (definition ∷ earlier) = defined_by (definition.name.number == name) _ (definition, earlier) _ (defined-named name earlier)

first-there : (earlier rest : List Definition) → 0 < length rest → is_some (first_after earlier rest) ≡ true
first-there earlier [] h = absurd (omega (arith, h))
first-there earlier (definition ∷ rest) h = refl

-- a name has a definition where a place of one is found
pub defined-place : (definitions : List Definition) (name : ℕ) (found : Option ℕ) →
    IfSome found (λ place. definition_named name (newest_first definitions) ≡ definition_at place definitions) → IfSome found (λ place. place < length definitions) →
    IfNone found (definition_named name (newest_first definitions) ≡ None) → is_some found ≡ is_defined name (newest_first definitions)
defined-place definitions name (Some place) same within none =
    sym (defined-named name (newest_first definitions) ∙ ap is_some same ∙ first-there (take place definitions) (drop place definitions) (omega (arith, within, length-drop place definitions)))
defined-place definitions name None same within none = sym (defined-named name (newest_first definitions) ∙ ap is_some none)

module _ {A S : Type 0} (operations : Operations A S) where
  by_name : (here : Bool) (at : ℕ) (definition : DefinitionTree) (earlier : List DefinitionTree) (x : Answer (Callable A S)) (y : Option (DefinitionTree × List DefinitionTree)) → x ≡ callable_of operations at y →
      (if here then Ok (callable operations (callables operations earlier) definition) else x) ≡ callable_of operations at (if here then Some (definition, earlier) else y)
  by_name true at definition earlier x y e = refl
  by_name false at definition earlier x y e = e

  pub called-named : (at name : ℕ) (definitions : List DefinitionTree) → called at name (callables operations definitions) ≡ callable_of operations at (definition_named name definitions)
  called-named at name [] = refl
  called-named at name (definition ∷ earlier) = by_name (definition.name.number == name) at definition earlier _ _ (called-named at name earlier)

  -- the number of arguments is tested before they are evaluated
  pub called-with : {X : Type 0} (at arguments : ℕ) (o : Option (DefinitionTree × List DefinitionTree)) (go_on : Callable A S → Answer X) →
      (callable_of operations at o >>= λ callable. if_as_many at (length callable.parameters) arguments >>= λ fits. go_on callable) ≡ (named_with at arguments o >>= λ found. callable_of operations at found >>= go_on)
  called-with at arguments None go_on = refl
  called-with at arguments (Some found) go_on =
      ap (λ (n : ℕ). if_as_many at n arguments >>= λ fits. go_on (callable operations (callables operations found.1) found.0)) (length-map found.0.parameters (λ (parameter : NameTree). parameter.number))
      ∙ tested (if_as_many at (length found.0.parameters) arguments)
    where
      tested : (fits : Answer (Unit {0})) → (fits >>= λ _. go_on (callable operations (callables operations found.1) found.0)) ≡ ((fits >>= λ _. Ok (Some found)) >>= λ found. callable_of operations at found >>= go_on)
      tested (Ok fits) = refl
      tested (Err refused) = refl

-- a definition that is called is there
pub named_with-some : (at arguments : ℕ) (o found : Option (DefinitionTree × List DefinitionTree)) → named_with at arguments o ≡ Ok found → (it : DefinitionTree × List DefinitionTree) × (found ≡ Some it)
named_with-some at arguments None found e = cc
named_with-some at arguments (Some it) found e = (it, tested (if_as_many at (length it.0.parameters) arguments) e)
  where
    tested : (fits : Answer (Unit {0})) → (fits >>= λ _. Ok (Some it)) ≡ Ok found → found ≡ Some it
    tested (Ok fits) e = cc
    tested (Err refused) e = cc
