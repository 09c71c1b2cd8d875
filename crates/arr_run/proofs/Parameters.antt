-- Parameters that stand for what was passed, one after another.
use Rattle.std.proofs.Common.{◌≡◌, ℕ, ◌+◌, ◌<◌, List, [], ◌∷◌, ◌++◌, length, get_or, drop, map, reverse, refl, sym, ap, ◌∙◌, append_assoc}
use Rattle.std.proofs.lemmas.List.{drop_more, reverse-append}
use Rattle.arr_ast.specs.declared.program.Name.{Name}
use Rattle.arr_ast.specs.declared.shape.ShapeOf.{ShapeOf}
use Rattle.arr_ast.specs.ExpressionTree.{NameTree, name_tree}
use Rattle.arr_scope.specs.declared.bound.Bound.TheVariants.{Value}
use Rattle.arr_run.specs.Expression.{parameters_bound}
use Rattle.arr_scope.specs.Scope.{Names}

-- the numbers of a slice's names
abbrev pub numbers : List Name → List ℕ
numbers parameters = map (λ (parameter : NameTree). parameter.number) (map name_tree parameters)

pub bound_none : {A : Type 0} (parameters : List ℕ) → parameters_bound {A = A} parameters [] ≡ []
bound_none [] = refl
bound_none (parameter ∷ parameters) = refl

-- one parameter more, where the values are taken from the end of the reversed list
pub bound_more : {A : Type 0} (parameters : List Name) (place : ℕ) (parameter : Name) (names : Names A) (left all : List (ShapeOf × A)) (found : ShapeOf × A) →
    place < length parameters → all ≡ left ++ found ∷ [] →
    (names ++ parameters_bound (numbers (drop place parameters)) (reverse all)) ≡
    ((names ++ ((get_or parameters place parameter).number, Value found.0 found.1) ∷ []) ++ parameters_bound (numbers (drop (place + 1) parameters)) (reverse left))
bound_more parameters place parameter names left all found h e =
    let one = get_or parameters place parameter in
    ap (λ (these : List Name). names ++ parameters_bound (numbers these) (reverse all)) (drop_more parameters place parameter h)
    ∙ ap (λ (values : List (ShapeOf × _)). names ++ parameters_bound (numbers (one ∷ drop (place + 1) parameters)) values) (ap reverse e ∙ reverse-append left (found ∷ []))
    ∙ sym (append_assoc names ((one.number, Value found.0 found.1) ∷ []) (parameters_bound (numbers (drop (place + 1) parameters)) (reverse left)))

-- where no values are left
pub bound_over : {A : Type 0} (parameters others : List ℕ) (names after : Names A) (left rest : List (ShapeOf × A)) → left ≡ [] → rest ≡ [] → after ≡ names →
    (names ++ parameters_bound parameters (reverse left)) ≡ (after ++ parameters_bound others (reverse rest))
bound_over parameters others names after left rest none over same =
    ap (λ (values : List (ShapeOf × _)). names ++ parameters_bound parameters (reverse values)) none
    ∙ ap (λ (these : Names _). names ++ these) (bound_none parameters ∙ sym (bound_none others))
    ∙ (λ i. sym same i ++ parameters_bound others (reverse (sym over i)))
