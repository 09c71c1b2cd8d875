-- What arrays are, and what is made of them: the operations of a kind of values.
use Rattle.std.specs.Prelude.{ℕ}
use Rattle.arr_ast.specs.declared.expression.Sign.{Sign}
use Rattle.arr_ast.specs.declared.expression.SingleFunction.{SingleFunction}
use Rattle.arr_ast.specs.declared.expression.PairFunction.{PairFunction}
use Rattle.arr_ast.specs.declared.shape.ShapeOf.{ShapeOf}

-- Arrays are of type A, and S is what is kept beside them. Shapes are given, and fit.
pub record Operations (A S : Type 0) : Type 0 where
  -- the next input of a shape
  pub input : ShapeOf → S → A × S
  -- a number, as a scalar
  pub constant : ℕ → S → A × S
  -- a sum or a difference, and a product, element by element
  pub signed : Sign → A → A → S → A × S
  pub product : A → A → S → A × S
  pub opposite : A → S → A × S
  pub single : SingleFunction → ShapeOf → A → S → A × S
  pub pair : PairFunction → ShapeOf → ShapeOf → A → A → S → A × S
  -- the element at a place, as a scalar; and with a scalar in its place
  pub element : A → ℕ → A
  pub with_element : A → ℕ → A → A
  -- what an output leaves
  pub output : A → S → S
