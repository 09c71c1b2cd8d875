-- The circuit of a program has no fault, and an output.
use Rattle.std.proofs.Common.{◌≡◌, ◌∙◌, ◌≤◌, ℕ, List, length, subst, sym, ap, Some, None, arith}
use Rattle.std.specs.Prelude.{IsTrue, is_ok}
use Rattle.arr_ast.specs.declared.lang.Lang.{Lang}
use Rattle.arr_ast.specs.declared.lang.Lang.TheVariants.{One, Two}
use Rattle.arr_ast.specs.ProgramTree.{ProgramTree}
use Rattle.arr_check.specs.Program.{run_program, run_end}
use Rattle.arr_lower.specs.Lowering.{nodes_of}
use Rattle.circuit_core.specs.Faults.{fault_of}
use Rattle.circuit_core.specs.Parts.{Limits, Parts}
use Rattle.circuit_core.specs.Sound.{greatest}
use Rattle.node_core.specs.Nodes.{Nodes, IsNodeList}
use Rattle.layer_compile.specs.Circuits.{AreKept, circuit_of, refusal_of}
use Rattle.arr_compile.specs.Circuits.{limits_of, IsCompiled}
use Rattle.arr_compile.proofs.Computing.{AreLists}

-- the limits of a language keep to those of every circuit
kept_limits : (lang : Lang) → AreKept (limits_of lang)
kept_limits One = record { height = omega arith; exponent = omega arith }
kept_limits Two = record { height = omega arith; exponent = omega arith }

pub no_fault : AreLists → ((limits : Limits) (n : Nodes) → AreKept limits → IsNodeList n → refusal_of limits n ≡ None → fault_of greatest (circuit_of n) ≡ None)
    → (lang : Lang) (text : List ℕ) (parts : Parts) → IsCompiled lang text parts → fault_of greatest parts ≡ None
no_fault lists law lang text parts is = ap (fault_of greatest) is.laid_out ∙ law (limits_of lang) is.nodes (kept_limits lang) (lists lang is.tree is.nodes is.lowered.nodes_are) is.fits

pub has_output : ((lang : Lang) (program : ProgramTree) (nodes : Nodes) → IsTrue (is_ok (run_program lang program)) → nodes_of lang program ≡ Some nodes → (length nodes.outputs ≡ (run_end lang program).outputs) × (1 ≤ length nodes.outputs))
    → (lang : Lang) (text : List ℕ) (parts : Parts) → IsCompiled lang text parts → 1 ≤ parts.outputs
has_output law lang text parts is =
    subst (λ (p : Parts). 1 ≤ p.outputs) (sym is.laid_out) (law lang is.tree is.nodes is.lowered.accepted.checked is.lowered.nodes_are).1

pub few_outputs : ((lang : Lang) (program : ProgramTree) (nodes : Nodes) → nodes_of lang program ≡ Some nodes → length nodes.outputs ≤ 65535)
    → (lang : Lang) (text : List ℕ) (parts : Parts) → IsCompiled lang text parts → parts.outputs ≤ 65535
few_outputs law lang text parts is = subst (λ (p : Parts). p.outputs ≤ 65535) (sym is.laid_out) (law lang is.tree is.nodes is.lowered.nodes_are)
