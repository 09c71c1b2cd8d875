-- The names in scope by their numbers, the oldest first.
use Rattle.std.specs.Prelude.{ℕ, ◌+◌, ◌==◌, List, [], ◌∷◌, Option, Some, None, if◌then◌else◌}
use Rattle.arr_ast.specs.declared.shape.ShapeOf.{ShapeOf}
use Rattle.arr_scope.specs.declared.bound.Bound.{Bound}
use Rattle.arr_scope.specs.declared.bound.Bound.TheVariants.{Value}

abbrev pub Names : Type 0 → Type 0
Names A = List (ℕ × Bound A)

abbrev pub binding_of : {A : Type 0} → ℕ → Names A → Option (Bound A)
binding_of name [] = None
binding_of name (entry ∷ names) =
    if entry.0 == name then Some entry.1 else binding_of name names

-- where a name is in scope, counted from so many on
abbrev pub place_from : {A : Type 0} → ℕ → ℕ → Names A → Option ℕ
place_from place name [] = None
place_from place name (entry ∷ names) =
    if entry.0 == name then Some place else place_from (place + 1) name names

-- where a name is in scope
abbrev pub place_of : {A : Type 0} → ℕ → Names A → Option ℕ
place_of name names = place_from 0 name names

-- with another thing that a name stands for
abbrev pub with_binding : {A : Type 0} → ℕ → Bound A → Names A → Names A
with_binding name new [] = []
with_binding name new (entry ∷ names) =
    if entry.0 == name then (name, new) ∷ names else entry ∷ with_binding name new names

-- the shape and the array of what has them
abbrev pub array_of : {A : Type 0} → Option (Bound A) → Option (ShapeOf × A)
array_of (Some (Value shape array)) = Some (shape, array)
array_of binding = None
