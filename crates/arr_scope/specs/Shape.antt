-- The shapes of values, and of the values of operators and functions.
use Rattle.std.specs.Prelude.{ℕ, ◌+◌, ◌-◌, ◌*◌, ◌==◌, Bool, true, false, ◌&&◌, Ok, Err, if◌then◌else◌}
use Rattle.arr_ast.specs.declared.expression.Sign.{Sign}
use Rattle.arr_ast.specs.declared.expression.Sign.TheVariants.{Plus, Minus}
use Rattle.arr_ast.specs.declared.expression.SingleFunction.{SingleFunction}
use Rattle.arr_ast.specs.declared.expression.SingleFunction.TheVariants.{Sum, Transpose}
use Rattle.arr_ast.specs.declared.expression.PairFunction.{PairFunction}
use Rattle.arr_ast.specs.declared.expression.PairFunction.TheVariants.{Scale, Dot, MatMul}
use Rattle.arr_ast.specs.declared.shape.ShapeOf.{ShapeOf}
use Rattle.arr_ast.specs.declared.shape.ShapeOf.TheVariants.{Scalar, Vector, Matrix}
use Rattle.arr_scope.specs.declared.refused.CheckKind.TheVariants.{Shape}
use Rattle.arr_scope.specs.declared.refused.CheckRefused.TheVariants.{Bad}
use Rattle.arr_scope.specs.declared.counts.Counts.{Counts}
use Rattle.arr_scope.specs.Agrees.{Answer, ◌>>=◌}
use Rattle.arr_scope.specs.Counting.{nodes_at, constant_at}
use Rattle.arr_scope.specs.Limits.{minus_one}

-- how many numbers a value has
abbrev pub size_of : ShapeOf → ℕ
size_of Scalar = 1
size_of (Vector n) = n
size_of (Matrix n m) = n * m

abbrev pub same_shape : ShapeOf → ShapeOf → Bool
same_shape Scalar Scalar = true
same_shape (Vector n) (Vector m) = n == m
same_shape (Matrix n m) (Matrix k q) = (n == k) && (m == q)
same_shape a b = false

-- a shape, and the counts
abbrev pub Shaped : Type 0
Shaped = Answer (ShapeOf × Counts)

-- goes on where both shapes are equal
abbrev pub if_alike : ℕ → ShapeOf → ShapeOf → Shaped → Shaped
if_alike at left right shaped = if same_shape left right then shaped else Err (Bad at Shape)

-- the shape, for so many nodes
abbrev pub for_nodes : ℕ → ℕ → ShapeOf → Counts → Shaped
for_nodes at count shape counts = nodes_at at count counts >>= λ counts. Ok (shape, counts)

-- the shape, for -1 and so many nodes
abbrev pub for_minus_one : ℕ → ℕ → ShapeOf → Counts → Shaped
for_minus_one at count shape counts =
    constant_at at minus_one counts >>= λ counts. for_nodes at count shape counts

abbrev pub sum_shape : Sign → ℕ → ShapeOf → ShapeOf → Counts → Shaped
sum_shape Plus at left right counts =
    if_alike at left right (for_nodes at (size_of left) left counts)
sum_shape Minus at left right counts =
    if_alike at left right (for_minus_one at (size_of left * 2) left counts)

abbrev pub product_shape : ℕ → ShapeOf → ShapeOf → Counts → Shaped
product_shape at left right counts =
    if_alike at left right (for_nodes at (size_of left) left counts)

abbrev pub single_shape : SingleFunction → ℕ → ShapeOf → Counts → Shaped
single_shape Sum at shape counts = for_nodes at (size_of shape - 1) Scalar counts
single_shape Transpose at (Matrix n m) counts = Ok (Matrix m n, counts)
single_shape Transpose at shape counts = Err (Bad at Shape)

abbrev pub pair_shape : PairFunction → ℕ → ShapeOf → ShapeOf → Counts → Shaped
pair_shape Scale at Scalar right counts = for_nodes at (size_of right) right counts
pair_shape Dot at (Vector n) (Vector m) counts =
    if n == m then for_nodes at (n + n - 1) Scalar counts else Err (Bad at Shape)
pair_shape MatMul at (Matrix n m) (Matrix k q) counts =
    if m == k then for_nodes at ((n * q) * (m + m - 1)) (Matrix n q) counts else Err (Bad at Shape)
pair_shape function at left right counts = Err (Bad at Shape)
