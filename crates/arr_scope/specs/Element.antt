-- Elements of values, by their indices.
use Rattle.std.specs.Prelude.{ℕ, ◌+◌, ◌*◌, ℤ, pos, negsuc, nat_abs, Bool, false, Option, Some, None, Ok, Err, nat_lt, if◌then◌else◌}
use Rattle.arr_ast.specs.IndexTree.{Sum}
use Rattle.arr_ast.specs.declared.shape.ShapeOf.{ShapeOf}
use Rattle.arr_ast.specs.declared.shape.ShapeOf.TheVariants.{Vector, Matrix}
use Rattle.arr_scope.specs.declared.refused.CheckKind.TheVariants.{Shape, Index}
use Rattle.arr_scope.specs.declared.refused.CheckRefused.TheVariants.{Bad}
use Rattle.arr_scope.specs.Agrees.{Answer, ◌>>=◌}
use Rattle.arr_scope.specs.Index.{index_value, index_at}
use Rattle.arr_scope.specs.Scope.{Names}

abbrev pub is_place : ℤ → ℕ → Bool
is_place (pos n) dimension = nat_lt n dimension
is_place (negsuc n) dimension = false

-- an index within its dimension
abbrev pub index_below : {A : Type 0} → Names A → Sum → ℕ → Answer ℕ
index_below scope index dimension =
    index_value scope (index_at index) index >>= λ value. if is_place value dimension
    then Ok (nat_abs value) else Err (Bad (index_at index) Index)

-- the indices of an element of a value of this shape, of the name at this place
abbrev pub indices_at : {A : Type 0} → Names A → ℕ → Option Sum → Sum → ShapeOf → Answer (ℕ × ℕ)
indices_at scope at None first (Vector n) = index_below scope first n >>= λ row. Ok (row, 0)
indices_at scope at (Some second) first (Matrix n m) =
    index_below scope first n >>= λ row. index_below scope second m >>= λ column. Ok (row, column)
indices_at scope at second first shape = Err (Bad at Shape)

-- the place of row and column in the list of a shape
abbrev pub offset : ShapeOf → ℕ × ℕ → ℕ
offset (Matrix n m) place = place.0 * m + place.1
offset shape place = place.0
