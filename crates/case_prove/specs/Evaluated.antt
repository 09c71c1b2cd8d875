-- What evaluation says of a case: its outputs, or why there are none.
use Rattle.std.specs.Prelude.{◌≡◌, ◌≢◌, ℕ, List, length, Some}
use Rattle.field_ext.specs.Field.{F}
use Rattle.arr_ast.specs.ProgramTree.{ProgramTree}
use Rattle.arr_run.specs.Program.{input_count}
use Rattle.arr_compile.specs.declared.refused.CompileRefused.{CompileRefused}
use Rattle.arr_compile.specs.declared.refused.CompileRefused.TheVariants as compile
use Rattle.arr_compile.specs.Programs.{IsAccepted, IsRefusal}
use Rattle.arr_eval.specs.declared.refused.EvalRefused.{EvalRefused}
use Rattle.arr_eval.specs.declared.refused.EvalRefused.TheVariants as eval
use Rattle.arr_eval.specs.Meaning.{meaning}
use Rattle.case_text.specs.Content.{Content}
use Rattle.case_prove.specs.declared.refused.Refused.{Refused}
use Rattle.case_prove.specs.declared.refused.Refused.TheVariants.{Program, Input, Output, Proof, Memory}

-- The case's program is accepted, it has as many inputs as the case, and these outputs are its meaning on them.
pub record IsEvaluated (c : Content) (outputs : List F) : Type 0 where
  pub tree : ProgramTree
  pub accepted : IsAccepted c.lang c.program tree
  pub counted : length c.inputs ≡ input_count tree.inputs
  pub meaning_is : meaning c.lang tree c.inputs ≡ Some outputs

-- The case's program is accepted, and it has another number of inputs than the case.
pub record IsMiscounted (c : Content) (have need : ℕ) : Type 0 where
  pub tree : ProgramTree
  pub accepted : IsAccepted c.lang c.program tree
  pub case_has : have ≡ length c.inputs
  pub program_needs : need ≡ input_count tree.inputs
  pub differ : have ≢ need

-- A call refuses a case as the definitions do, or memory ran out.
abbrev pub Refuses : Content → Refused → Type 0
Refuses c (Program bad) = IsRefusal c.lang c.program bad
Refuses c (Input have need) = IsMiscounted c have need
Refuses c (Output have need) = ⊥
Refuses c (Proof bad) = ⊥
Refuses c Memory = Unit {0}

abbrev pub compile_refused : CompileRefused → Refused
compile_refused (compile.Bad bad) = Program bad
compile_refused compile.Memory = Memory

abbrev pub eval_refused : EvalRefused → Refused
eval_refused (eval.InputCount have need) = Input have need
eval_refused eval.Memory = Memory
