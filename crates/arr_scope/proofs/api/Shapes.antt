-- What a shape is that operators and functions give, where they aren't refused.
use Rattle.std.proofs.Common.{◌≡◌, ℕ, ◌*◌, ◌==◌, ◌&&◌, Bool, true, false, Ok, refl}
use Rattle.std.proofs.lemmas.Bool.{eqb-true}
use Rattle.arr_ast.specs.declared.expression.Sign.{Sign}
use Rattle.arr_ast.specs.declared.expression.Sign.TheVariants.{Plus, Minus}
use Rattle.arr_ast.specs.declared.shape.ShapeOf.{ShapeOf}
use Rattle.arr_ast.specs.declared.shape.ShapeOf.TheVariants.{Scalar, Vector, Matrix}
use Rattle.arr_scope.specs.declared.counts.Counts.{Counts}
use Rattle.arr_scope.specs.declared.refused.CheckKind.TheVariants as kinds
use Rattle.arr_scope.specs.declared.refused.CheckRefused.TheVariants.{Bad}
use Rattle.arr_scope.specs.Counting.{nodes_at, constant_at}
use Rattle.arr_scope.specs.Shape.{size_of, same_shape, for_nodes, for_minus_one, sum_shape, product_shape}
use Rattle.arr_scope.proofs.api.Answered.{bind_ok, if_ok, pair_ok}

pub for_nodes-shape : (at count : ℕ) (shape found : ShapeOf) (before counts : Counts) → for_nodes at count shape before ≡ Ok (found, counts) → found ≡ shape
for_nodes-shape at count shape found before counts e =
    let parts = bind_ok (nodes_at at count before) _ (found, counts) e in (pair_ok (found, counts) shape parts.0 parts.2).0

pub for_minus_one-shape : (at count : ℕ) (shape found : ShapeOf) (before counts : Counts) → for_minus_one at count shape before ≡ Ok (found, counts) → found ≡ shape
for_minus_one-shape at count shape found before counts e =
    let parts = bind_ok (constant_at at 2147483646 before) _ (found, counts) e in for_nodes-shape at count shape found parts.0 counts parts.2

-- a sum that isn't refused is of two equal shapes, and of theirs
pub sum_shape-shape : (sign : Sign) (at : ℕ) (left right found : ShapeOf) (before counts : Counts) → sum_shape sign at left right before ≡ Ok (found, counts) → (same_shape left right ≡ true) × (found ≡ left)
sum_shape-shape Plus at left right found before counts e =
    let parts = if_ok (same_shape left right) (for_nodes at (size_of left) left before) (Bad at kinds.Shape) (found, counts) e in
    (parts.0, for_nodes-shape at (size_of left) left found before counts parts.1)
sum_shape-shape Minus at left right found before counts e =
    let parts = if_ok (same_shape left right) (for_minus_one at (size_of left * 2) left before) (Bad at kinds.Shape) (found, counts) e in
    (parts.0, for_minus_one-shape at (size_of left * 2) left found before counts parts.1)

pub product_shape-shape : (at : ℕ) (left right found : ShapeOf) (before counts : Counts) → product_shape at left right before ≡ Ok (found, counts) → (same_shape left right ≡ true) × (found ≡ left)
product_shape-shape at left right found before counts e =
    let parts = if_ok (same_shape left right) (for_nodes at (size_of left) left before) (Bad at kinds.Shape) (found, counts) e in
    (parts.0, for_nodes-shape at (size_of left) left found before counts parts.1)

both_true : (a b : Bool) → (a && b) ≡ true → (a ≡ true) × (b ≡ true)
both_true true b e = (refl, e)
both_true false b e = cc

pub same_shape-size : (s t : ShapeOf) → same_shape s t ≡ true → size_of s ≡ size_of t
same_shape-size Scalar Scalar e = refl
same_shape-size (Vector n) (Vector m) e = eqb-true n m e
same_shape-size (Matrix n m) (Matrix k q) e = let both = both_true (n == k) (m == q) e in λ i. eqb-true n k both.0 i * eqb-true m q both.1 i
same_shape-size Scalar (Vector n) e = cc
same_shape-size Scalar (Matrix n m) e = cc
same_shape-size (Vector n) Scalar e = cc
same_shape-size (Vector n) (Matrix m q) e = cc
same_shape-size (Matrix n m) Scalar e = cc
same_shape-size (Matrix n m) (Vector k) e = cc
