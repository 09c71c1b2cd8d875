-- What an evaluation gives: the program's meaning, or how many numbers it needs.
use Rattle.std.specs.Prelude.{◌≡◌, ◌≢◌, List, length, Some, Result, Ok, Err}
use Rattle.arr_ast.specs.declared.lang.Lang.{Lang}
use Rattle.arr_ast.specs.ProgramTree.{ProgramTree}
use Rattle.arr_run.specs.Program.{input_count}
use Rattle.arr_eval.specs.declared.refused.EvalRefused.{EvalRefused}
use Rattle.arr_eval.specs.declared.refused.EvalRefused.TheVariants.{InputCount, Memory}
use Rattle.field_ext.specs.Field.{F}
use Rattle.arr_eval.specs.Meaning.{meaning}

abbrev pub Evaluates : {X : Type 0} → (X → List F)
    → Lang → ProgramTree → List F → Result X EvalRefused → Type 0
Evaluates view lang program inputs (Ok outputs) =
    (length inputs ≡ input_count program.inputs)
    × (meaning lang program inputs ≡ Some (view outputs))
Evaluates view lang program inputs (Err (InputCount have need)) =
    (have ≡ length inputs) × (need ≡ input_count program.inputs) × (have ≢ need)
Evaluates view lang program inputs (Err Memory) = length inputs ≡ input_count program.inputs
