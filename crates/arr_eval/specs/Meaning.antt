-- What programs put out: their run over arrays of numbers. A reader begins here.
use Rattle.std.specs.Prelude.{◌++◌, List, [], ◌∷◌, map, take, drop, set, Option, Some, None, Ok, Err}
use Rattle.arr_ast.specs.declared.expression.Sign.{Sign}
use Rattle.arr_ast.specs.declared.expression.Sign.TheVariants.{Plus, Minus}
use Rattle.arr_ast.specs.declared.expression.SingleFunction.{SingleFunction}
use Rattle.arr_ast.specs.declared.expression.SingleFunction.TheVariants.{Sum, Transpose}
use Rattle.arr_ast.specs.declared.expression.PairFunction.{PairFunction}
use Rattle.arr_ast.specs.declared.expression.PairFunction.TheVariants.{Scale, Dot, MatMul}
use Rattle.arr_ast.specs.declared.shape.ShapeOf.{ShapeOf}
use Rattle.arr_ast.specs.declared.shape.ShapeOf.TheVariants.{Matrix}
use Rattle.arr_ast.specs.declared.lang.Lang.{Lang}
use Rattle.arr_ast.specs.ProgramTree.{ProgramTree}
use Rattle.arr_scope.specs.declared.counts.Counts.{Counts}
use Rattle.arr_scope.specs.Agrees.{Answer}
use Rattle.arr_run.specs.Operations.{Operations}
use Rattle.arr_run.specs.Program.{end_of}
use Rattle.arr_scope.specs.Shape.{size_of}
use Rattle.arr_eval.specs.Numbers.{element, element_wise, sum_of, dot_of, transpose_of, matmul_of}
use Rattle.field_ext.specs.Field.{F, of, add_f, sub_f, mul_f, neg_f}

-- the inputs that are left, and the outputs so far
pub record Kept : Type 0 where
  pub inputs : List F
  pub outputs : List F

abbrev pub signed : Sign → List F → List F → List F
signed Plus left right = element_wise add_f left right
signed Minus left right = element_wise sub_f left right

abbrev pub single : SingleFunction → ShapeOf → List F → List F
single Sum shape items = sum_of items ∷ []
single Transpose (Matrix n m) items = transpose_of n m items
single Transpose shape items = items

abbrev pub pair : PairFunction → ShapeOf → ShapeOf → List F → List F → List F
pair Scale shape other left right = map (mul_f (element left 0)) right
pair Dot shape other left right = dot_of left right ∷ []
pair MatMul (Matrix n m) (Matrix k q) left right = matmul_of n m q left right
pair MatMul shape other left right = []

-- an array is the list of its elements, row by row
abbrev pub numbers : Operations (List F) Kept
numbers = record {
  input = λ shape kept.
      (take (size_of shape) kept.inputs, record kept { inputs = drop (size_of shape) kept.inputs });
  constant = λ value kept. (of value ∷ [], kept);
  signed = λ sign left right kept. (signed sign left right, kept);
  product = λ left right kept. (element_wise mul_f left right, kept);
  opposite = λ items kept. (map neg_f items, kept);
  single = λ function shape items kept. (single function shape items, kept);
  pair = λ function shape other left right kept. (pair function shape other left right, kept);
  element = λ items place. element items place ∷ [];
  with_element = λ items place new. set items place (element new 0);
  output = λ items kept. record kept { outputs = kept.outputs ++ items };
}

abbrev pub outputs_of : Answer (Counts × Kept) → Option (List F)
outputs_of (Ok end) = Some end.1.outputs
outputs_of (Err refused) = None

-- what a program of a language puts out for these numbers, where it isn't refused
abbrev pub meaning : Lang → ProgramTree → List F → Option (List F)
meaning lang program inputs =
    outputs_of (end_of numbers lang program (record { inputs = inputs; outputs = [] }))
