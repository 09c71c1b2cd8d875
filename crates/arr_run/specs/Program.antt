-- The run of programs.
use Rattle.std.specs.Prelude.{ℕ, List, reverse, sum_by, ◌+◌, ◌==◌, ◌&&◌, [], Ok, Err, nat_le, if◌then◌else◌}
use Rattle.std.specs.FinSet as set
use Rattle.arr_ast.specs.declared.lang.Lang.{Lang}
use Rattle.arr_ast.specs.declared.program.Dimension.{Dimension}
use Rattle.arr_ast.specs.declared.program.Dimensions.{Dimensions}
use Rattle.arr_ast.specs.declared.program.Dimensions.TheVariants.{Scalar, Vector, Matrix}
use Rattle.arr_ast.specs.ProgramTree.{InputTree, DefinitionTree, TopTree, Output, Inner, ProgramTree}
use Rattle.arr_ast.specs.declared.shape.ShapeOf.{ShapeOf}
use Rattle.arr_ast.specs.declared.shape.ShapeOf.TheVariants.{Scalar as ShapeScalar, Vector as ShapeVector, Matrix as ShapeMatrix}
use Rattle.arr_scope.specs.declared.bound.Bound.TheVariants.{Value}
use Rattle.arr_scope.specs.declared.refused.CheckKind.TheVariants.{Dims, Outputs, NoOutput}
use Rattle.arr_scope.specs.declared.refused.CheckRefused.TheVariants.{Bad}
use Rattle.arr_scope.specs.declared.counts.Counts.{Counts}
use Rattle.arr_scope.specs.Agrees.{Answer, ◌>>=◌, each}
use Rattle.arr_scope.specs.Counting.{step_at, nodes_at}
use Rattle.arr_run.specs.Definitions.{callables, after_definitions}
use Rattle.arr_run.specs.Expression.{value_of}
use Rattle.arr_scope.specs.Limits.{most_dimension, most_outputs}
use Rattle.arr_run.specs.Operations.{Operations}
use Rattle.arr_scope.specs.Shape.{size_of}
use Rattle.arr_run.specs.State.{State, state, bound, if_free, with_name}
use Rattle.arr_run.specs.Statement.{after_statement}

-- a dimension within its limits
abbrev pub dimension_of : Dimension → Answer ℕ
dimension_of dimension =
    if nat_le 1 dimension.size && nat_le dimension.size most_dimension then Ok dimension.size
    else Err (Bad dimension.at Dims)

abbrev pub input_shape : Dimensions → Answer ShapeOf
input_shape Scalar = Ok ShapeScalar
input_shape (Vector first) = dimension_of first >>= λ n. Ok (ShapeVector n)
input_shape (Matrix first second) =
    dimension_of first >>= λ n. dimension_of second >>= λ m. Ok (ShapeMatrix n m)

-- the shape that is declared, whatever its dimensions are
abbrev pub declared_shape : Dimensions → ShapeOf
declared_shape Scalar = ShapeScalar
declared_shape (Vector first) = ShapeVector first.size
declared_shape (Matrix first second) = ShapeMatrix first.size second.size

-- so many outputs more
abbrev pub outputs_at : ℕ → ℕ → Counts → Answer Counts
outputs_at at more counts =
    if nat_le (more + counts.outputs) most_outputs
    then Ok (record counts { outputs = more + counts.outputs })
    else Err (Bad at Outputs)

-- nothing counted yet, in a language, whose limits hold
abbrev pub none_counted : Lang → Counts
none_counted lang =
    record { lang = lang; constants = set.empty; steps = 0; nodes = 0; outputs = 0 }

abbrev pub if_any_output : {A S : Type 0} → ℕ → State A S → Answer (State A S)
if_any_output end after = if after.counts.outputs == 0 then Err (Bad end NoOutput) else Ok after

module _ {A S : Type 0} (operations : Operations A S) where
  abbrev pub after_input : InputTree → State A S → Answer (State A S)
  after_input input before =
      step_at input.at before.counts >>= λ counts.
      if_free input.name.at (bound input.name before.names) >>= λ free.
      input_shape input.dimensions >>= λ shape.
      nodes_at input.name.at (size_of shape) counts >>= λ counts.
      Ok (state (with_name input.name.number (Value shape (operations.input shape before.kept).0)
      before.names) counts (operations.input shape before.kept).1)

  -- where these definitions may be called, the newest of which is first
  abbrev pub after_top : List DefinitionTree → TopTree → State A S → Answer (State A S)
  after_top definitions (Output at value) before =
      step_at at before.counts >>= λ counts.
      value_of operations (callables operations definitions) value before.names counts before.kept
      >>= λ found. outputs_at at (size_of found.0) found.2 >>= λ counts.
      Ok (state before.names counts (operations.output found.1 found.3))
  after_top definitions (Inner statement) before =
      after_statement operations definitions statement before

  -- the state at the end, or the first refusal
  abbrev pub run_of : Lang → ProgramTree → S → Answer (State A S)
  run_of lang program kept =
      each after_input program.inputs (state [] (none_counted lang) kept) >>=
      after_definitions [] program.definitions >>=
      each (after_top (reverse program.definitions)) program.statements >>=
      if_any_output program.end

  -- what is counted and kept at the end
  abbrev pub end_of : Lang → ProgramTree → S → Answer (Counts × S)
  end_of lang program kept = run_of lang program kept >>= λ after. Ok (after.counts, after.kept)

-- how many numbers an input has
abbrev pub numbers_of_input : InputTree → ℕ
numbers_of_input input = size_of (declared_shape input.dimensions)

abbrev pub input_count : List InputTree → ℕ
input_count inputs = sum_by numbers_of_input inputs
