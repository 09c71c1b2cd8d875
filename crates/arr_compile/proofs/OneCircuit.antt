-- A text has one circuit, or one first refusal of all passes.
use Rattle.std.proofs.Common.{◌≡◌, ◌∙◌, ℕ, List, refl, sym, ap, Option, Some, None}
use Rattle.arr_ast.specs.declared.lang.Lang.{Lang}
use Rattle.arr_ast.specs.ProgramTree.{ProgramTree}
use Rattle.arr_ast.specs.declared.refusal.ProgramKind.{ProgramKind}
use Rattle.circuit_core.specs.Parts.{Parts}
use Rattle.node_core.specs.Nodes.{Nodes}
use Rattle.arr_lower.specs.Lowering.{nodes_of}
use Rattle.layer_compile.specs.Circuits.{circuit_of, refusal_of}
use Rattle.layer_compile.specs.declared.refused.LayerRefused.{LayerRefused}
use Rattle.layer_compile.specs.declared.refused.LayerRefused.TheVariants as layout
use Rattle.arr_compile.specs.declared.refused.BadProgram.{BadProgram}
use Rattle.arr_compile.specs.declared.refused.BadProgram.TheVariants.{At, Deep, Wide}
use Rattle.arr_compile.specs.Programs.{IsRefusedAs}
use Rattle.arr_compile.specs.Circuits.{limits_of, IsLowered, IsCompiled, IsTooLarge, IsCircuitRefusal}
use Rattle.arr_compile.proofs.OneReading.{OneTree, one_refusal, not_both}

one_list : (o : Option Nodes) (a b : Nodes) → o ≡ Some a → o ≡ Some b → a ≡ b
one_list o a b is is' = cc

same_nodes : OneTree → (lang : Lang) (text : List ℕ) (tree tree' : ProgramTree) (a b : Nodes) → IsLowered lang text tree a → IsLowered lang text tree' b → a ≡ b
same_nodes one lang text tree tree' a b is is' =
    let same = one lang text tree tree' is.accepted.read is'.accepted.read in
    one_list (nodes_of lang tree) a b is.nodes_are (ap (nodes_of lang) same ∙ is'.nodes_are)

pub one_circuit : OneTree → (lang : Lang) (text : List ℕ) (a b : Parts) → IsCompiled lang text a → IsCompiled lang text b → a ≡ b
one_circuit one lang text a b is is' =
    let same = same_nodes one lang text is.tree is'.tree is.nodes is'.nodes is.lowered is'.lowered in
    is.laid_out ∙ ap circuit_of same ∙ sym is'.laid_out

one_cause : (o : Option LayerRefused) (a b : LayerRefused) → o ≡ Some a → o ≡ Some b → a ≡ b
one_cause o a b is is' = cc

same_size : OneTree → (lang : Lang) (text : List ℕ) (a b : LayerRefused) → IsTooLarge lang text a → IsTooLarge lang text b → a ≡ b
same_size one lang text a b is is' =
    let same = same_nodes one lang text is.tree is'.tree is.nodes is'.nodes is.lowered is'.lowered in
    one_cause (refusal_of (limits_of lang) is.nodes) a b is.refusal_is (ap (refusal_of (limits_of lang)) same ∙ is'.refusal_is)

read_or_not : OneTree → (lang : Lang) (text : List ℕ) (at : ℕ) (kind : ProgramKind) (refused : LayerRefused) → IsRefusedAs lang text at kind → IsTooLarge lang text refused → ⊥
read_or_not one lang text at kind refused is is' = not_both one lang text is'.tree (At at kind) is'.lowered.accepted is

same_deep : (a b : ℕ) → layout.Deep a ≡ layout.Deep b → Deep a ≡ Deep b
same_deep a b e = let same : a ≡ b = cc in rw same refl

same_wide : (a b c d : ℕ) → layout.Wide a b ≡ layout.Wide c d → Wide a b ≡ Wide c d
same_wide a b c d e =
    let same : a ≡ c = cc in
    let same' : b ≡ d = cc in
    rw (same, same') refl

deep_or_wide : (a b c : ℕ) → layout.Deep a ≡ layout.Wide b c → ⊥
deep_or_wide a b c e = absurd cc

pub one_circuit_refusal : OneTree → (lang : Lang) (text : List ℕ) (a b : BadProgram) → IsCircuitRefusal lang text a → IsCircuitRefusal lang text b → a ≡ b
one_circuit_refusal one lang text (At at kind) (At at' kind') is is' = one_refusal one lang text (At at kind) (At at' kind') is is'
one_circuit_refusal one lang text (At at kind) (Deep levels) is is' = absurd (read_or_not one lang text at kind (layout.Deep levels) is is')
one_circuit_refusal one lang text (At at kind) (Wide height width) is is' = absurd (read_or_not one lang text at kind (layout.Wide height width) is is')
one_circuit_refusal one lang text (Deep levels) (At at kind) is is' = absurd (read_or_not one lang text at kind (layout.Deep levels) is' is)
one_circuit_refusal one lang text (Deep levels) (Deep levels') is is' = same_deep levels levels' (same_size one lang text (layout.Deep levels) (layout.Deep levels') is is')
one_circuit_refusal one lang text (Deep levels) (Wide height width) is is' =
    absurd (deep_or_wide levels height width (same_size one lang text (layout.Deep levels) (layout.Wide height width) is is'))
one_circuit_refusal one lang text (Wide height width) (At at kind) is is' = absurd (read_or_not one lang text at kind (layout.Wide height width) is' is)
one_circuit_refusal one lang text (Wide height width) (Deep levels) is is' =
    absurd (deep_or_wide levels height width (same_size one lang text (layout.Deep levels) (layout.Wide height width) is' is))
one_circuit_refusal one lang text (Wide height width) (Wide height' width') is is' =
    same_wide height width height' width' (same_size one lang text (layout.Wide height width) (layout.Wide height' width') is is')

fits_or_not : (o : Option LayerRefused) (refused : LayerRefused) → o ≡ None → o ≡ Some refused → ⊥
fits_or_not o refused is is' = absurd cc

not_too_large : OneTree → (lang : Lang) (text : List ℕ) (parts : Parts) (refused : LayerRefused) → IsCompiled lang text parts → IsTooLarge lang text refused → ⊥
not_too_large one lang text parts refused is is' =
    let same = same_nodes one lang text is.tree is'.tree is.nodes is'.nodes is.lowered is'.lowered in
    fits_or_not (refusal_of (limits_of lang) is.nodes) refused is.fits (ap (refusal_of (limits_of lang)) same ∙ is'.refusal_is)

pub compiled_or_refused : OneTree → (lang : Lang) (text : List ℕ) (parts : Parts) (bad : BadProgram) → IsCompiled lang text parts → ¬ IsCircuitRefusal lang text bad
compiled_or_refused one lang text parts (At at kind) is refused = not_both one lang text is.tree (At at kind) is.lowered.accepted refused
compiled_or_refused one lang text parts (Deep levels) is refused = not_too_large one lang text parts (layout.Deep levels) is refused
compiled_or_refused one lang text parts (Wide height width) is refused = not_too_large one lang text parts (layout.Wide height width) is refused
