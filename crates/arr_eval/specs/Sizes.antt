-- Values with as many elements as their shapes have places.
use Rattle.std.specs.Prelude.{◌≡◌, List, length, All}
use Rattle.arr_scope.specs.declared.bound.Bound.{Bound}
use Rattle.arr_scope.specs.declared.bound.Bound.TheVariants.{Value, Turn}
use Rattle.arr_scope.specs.Scope.{Names}
use Rattle.arr_scope.specs.Shape.{size_of}
use Rattle.field_ext.specs.Field.{F}

abbrev pub IsSized : Bound (List F) → Type 0
IsSized (Value shape items) = length items ≡ size_of shape
IsSized (Turn number) = Unit {0}

-- the array of each name in scope is sized
abbrev pub AllSized : Names (List F) → Type 0
AllSized names = All (λ entry. IsSized entry.1) names
