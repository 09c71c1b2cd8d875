-- What the second language keeps of the first: each text that the first accepts means the same in both.
use Rattle.std.specs.Prelude.{◌≡◌, ℕ, List}
use Rattle.field_ext.specs.Field.{F}
use Rattle.circuit_core.specs.Parts.{Parts}
use Rattle.arr_ast.specs.declared.lang.Lang.TheVariants.{One, Two}
use Rattle.arr_ast.specs.ProgramTree.{ProgramTree}
use Rattle.arr_eval.specs.Meaning.{meaning}
use Rattle.arr_lower.specs.Lowering.{nodes_of}
use Rattle.arr_compile.specs.Programs.{IsAccepted}
use Rattle.arr_compile.specs.Circuits.{IsCompiled}

-- The second language accepts the text with this tree, which means the same in both and has the same nodes.
pub record IsKept (text : List ℕ) (tree : ProgramTree) : Type 0 where
  pub accepted : IsAccepted Two text tree
  pub meaning_is : (inputs : List F) → meaning Two tree inputs ≡ meaning One tree inputs
  pub nodes_are : nodes_of Two tree ≡ nodes_of One tree

-- each text that the first language accepts
abbrev pub KeepsPrograms : Type 0
KeepsPrograms = (text : List ℕ) (tree : ProgramTree) → IsAccepted One text tree → IsKept text tree

-- each circuit that a text has in the first language
abbrev pub KeepsCircuits : Type 0
KeepsCircuits = (text : List ℕ) (parts : Parts) → IsCompiled One text parts
    → IsCompiled Two text parts
