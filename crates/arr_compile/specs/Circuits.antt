-- The circuit of a text's program, or the first refusal of all passes: lexing, reading, running over shapes, and layout.
use Rattle.std.specs.Prelude.{◌≡◌, ℕ, List, ◌∷◌, ◌++◌, length, replicate, Some, None}
use Rattle.field_ext.specs.Field.{F}
use Rattle.circuit_core.specs.Parts.{Parts, Limits, layer_values, zero_f}
use Rattle.node_core.specs.Nodes.{Nodes}
use Rattle.arr_ast.specs.declared.lang.Lang.{Lang}
use Rattle.arr_ast.specs.declared.lang.Lang.TheVariants.{One, Two}
use Rattle.arr_ast.specs.ProgramTree.{ProgramTree}
use Rattle.arr_eval.specs.Meaning.{meaning}
use Rattle.arr_lower.specs.Lowering.{nodes_of}
use Rattle.layer_compile.specs.Circuits.{circuit_of, refusal_of}
use Rattle.layer_compile.specs.declared.refused.LayerRefused.{LayerRefused}
use Rattle.layer_compile.specs.declared.refused.LayerRefused.TheVariants as layout
use Rattle.arr_compile.specs.declared.refused.BadProgram.{BadProgram}
use Rattle.arr_compile.specs.declared.refused.BadProgram.TheVariants.{At, Deep, Wide}
use Rattle.arr_compile.specs.declared.refused.CompileRefused.{CompileRefused}
use Rattle.arr_compile.specs.declared.refused.CompileRefused.TheVariants.{Bad, Memory}
use Rattle.arr_compile.specs.Programs.{IsAccepted, IsRefusedAs}

-- how high and how wide a circuit of a language may be
abbrev pub limits_of : Lang → Limits
limits_of One = record { height = 256; exponent = 16 }
limits_of Two = record { height = 1024; exponent = 20 }

-- The text has this tree, no check refuses it, and these are its nodes.
pub record IsLowered (lang : Lang) (text : List ℕ) (tree : ProgramTree) (nodes : Nodes)
    : Type 0 where
  pub accepted : IsAccepted lang text tree
  pub nodes_are : nodes_of lang tree ≡ Some nodes

-- The text's program is laid out as this circuit, within the limits of its language.
pub record IsCompiled (lang : Lang) (text : List ℕ) (parts : Parts) : Type 0 where
  pub tree : ProgramTree
  pub nodes : Nodes
  pub lowered : IsLowered lang text tree nodes
  pub fits : refusal_of (limits_of lang) nodes ≡ None
  pub laid_out : parts ≡ circuit_of nodes

-- The text's program is accepted, and its layout is refused.
pub record IsTooLarge (lang : Lang) (text : List ℕ) (refused : LayerRefused) : Type 0 where
  pub tree : ProgramTree
  pub nodes : Nodes
  pub lowered : IsLowered lang text tree nodes
  pub refusal_is : refusal_of (limits_of lang) nodes ≡ Some refused

-- The first refusal of all passes.
abbrev pub IsCircuitRefusal : Lang → List ℕ → BadProgram → Type 0
IsCircuitRefusal lang text (At at kind) = IsRefusedAs lang text at kind
IsCircuitRefusal lang text (Deep levels) = IsTooLarge lang text (layout.Deep levels)
IsCircuitRefusal lang text (Wide height width) = IsTooLarge lang text (layout.Wide height width)

-- A call refuses a text as the definition does, or memory ran out.
abbrev pub RefusesCircuit : Lang → List ℕ → CompileRefused → Type 0
RefusesCircuit lang text (Bad bad) = IsCircuitRefusal lang text bad
RefusesCircuit lang text Memory = Unit {0}

-- On these inputs the output layer holds 0, what the program means, and zeros.
pub record Computes (lang : Lang) (tree : ProgramTree) (parts : Parts) (inputs : List F)
    : Type 0 where
  pub outputs : List F
  pub meaning_is : meaning lang tree inputs ≡ Some outputs
  pub as_many : length outputs ≡ parts.outputs
  pub zeros : ℕ
  pub values_are : layer_values parts inputs 0 ≡ zero_f ∷ (outputs ++ replicate zeros zero_f)
