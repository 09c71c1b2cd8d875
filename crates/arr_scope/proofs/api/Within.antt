-- An element that isn't refused has a place within its array.
use Rattle.std.proofs.Common.{◌≡◌, ℕ, ◌+◌, ◌*◌, ◌<◌, ℤ, pos, negsuc, nat_abs, true, Option, Some, None, Ok, subst, arith}
use Rattle.std.proofs.lemmas.Bool.Decides.{nat_tests}
use Rattle.std.proofs.lemmas.Nat.{mul-add-lt}
use Rattle.arr_ast.specs.IndexTree.{Sum}
use Rattle.arr_ast.specs.declared.shape.ShapeOf.{ShapeOf}
use Rattle.arr_ast.specs.declared.shape.ShapeOf.TheVariants.{Vector, Matrix}
use Rattle.arr_scope.specs.Element.{is_place, index_below, indices_at}
use Rattle.arr_scope.specs.Element.{offset}
use Rattle.arr_scope.specs.Index.{index_value, index_at}
use Rattle.arr_scope.specs.Scope.{Names}
use Rattle.arr_scope.specs.Shape.{size_of}
use Rattle.arr_scope.proofs.api.Answered.{bind_ok, if_ok, same_ok}

is_place-below : (value : ℤ) (dimension : ℕ) → is_place value dimension ≡ true → nat_abs value < dimension
is_place-below (pos n) dimension e = grind (arith, nat_tests, e)
is_place-below (negsuc n) dimension e = cc

index-below : {A : Type 0} (names : Names A) (index : Sum) (dimension k : ℕ) → index_below names index dimension ≡ Ok k → k < dimension
index-below names index dimension k e =
    let parts = bind_ok (index_value names (index_at index) index) _ k e in
    let test = if_ok (is_place parts.0 dimension) (Ok (nat_abs parts.0)) _ k parts.2 in
    subst (λ n. n < dimension) (same_ok (nat_abs parts.0) k test.1) (is_place-below parts.0 dimension test.0)

pub offset-below : {A : Type 0} (names : Names A) (at : ℕ) (second : Option Sum) (first : Sum) (shape : ShapeOf) (place : ℕ × ℕ) → indices_at names at second first shape ≡ Ok place → offset shape place < size_of shape
offset-below names at None first (Vector n) place e =
    let row = bind_ok (index_below names first n) (λ row. Ok (row, 0)) place e in
    subst (λ (place : ℕ × ℕ). place.0 < n) (same_ok (row.0, 0) place row.2) (index-below names first n row.0 row.1)
offset-below names at (Some second) first (Matrix n m) place e =
    let row = bind_ok (index_below names first n) _ place e in
    let column = bind_ok (index_below names second m) (λ column. Ok (row.0, column)) place row.2 in
    let within : row.0 * m + column.0 < m * n = mul-add-lt row.0 m column.0 n (index-below names first n row.0 row.1) (index-below names second m column.0 column.1) in
    let inside : row.0 * m + column.0 < n * m = omega (arith, within) in
    subst (λ (place : ℕ × ℕ). place.0 * m + place.1 < n * m) (same_ok (row.0, column.0) place column.2) inside
offset-below names at second first shape place e = cc
