-- The circuit of a program computes what the program means.
use Rattle.std.proofs.Common.{◌≡◌, ◌∙◌, ◌+◌, ◌-◌, ℕ, List, length, sym, ap, Some}
use Rattle.std.proofs.lemmas.List.{length-map}
use Rattle.field_ext.specs.Field.{F}
use Rattle.arr_ast.specs.declared.lang.Lang.{Lang}
use Rattle.arr_ast.specs.ProgramTree.{ProgramTree}
use Rattle.arr_run.specs.Program.{input_count}
use Rattle.arr_eval.specs.Meaning.{meaning}
use Rattle.arr_lower.specs.Lowering.{nodes_of}
use Rattle.circuit_core.specs.Parts.{Parts, layer_values, padded_values}
use Rattle.node_core.specs.Nodes.{Nodes, IsNodeList}
use Rattle.layer_compile.specs.Circuits.{circuit_of, output_values, size_for}
use Rattle.arr_compile.specs.Circuits.{IsCompiled, Computes}

abbrev pub InputsAre : Type 0
InputsAre = (lang : Lang) (program : ProgramTree) (nodes : Nodes) → nodes_of lang program ≡ Some nodes → nodes.inputs ≡ input_count program.inputs

abbrev pub NodesMean : Type 0
NodesMean = (lang : Lang) (program : ProgramTree) (nodes : Nodes) (inputs : List F) → nodes_of lang program ≡ Some nodes → length inputs ≡ input_count program.inputs
    → meaning lang program inputs ≡ Some (output_values nodes inputs)

abbrev pub OutputsStand : Type 0
OutputsStand = (n : Nodes) (inputs : List F) → IsNodeList n → layer_values (circuit_of n) inputs 0 ≡ padded_values (size_for (1 + length n.outputs)) (output_values n inputs)

abbrev pub AreLists : Type 0
AreLists = (lang : Lang) (program : ProgramTree) (nodes : Nodes) → nodes_of lang program ≡ Some nodes → IsNodeList nodes

pub inputs_are : InputsAre → (lang : Lang) (text : List ℕ) (parts : Parts) (is : IsCompiled lang text parts) → parts.inputs ≡ input_count is.tree.inputs
inputs_are law lang text parts is = ap (λ (p : Parts). p.inputs) is.laid_out ∙ law lang is.tree is.nodes is.lowered.nodes_are

pub computes : InputsAre → AreLists → NodesMean → OutputsStand → (lang : Lang) (text : List ℕ) (parts : Parts) (is : IsCompiled lang text parts) (inputs : List F) → length inputs ≡ parts.inputs → Computes lang is.tree parts inputs
computes law lists mean stand lang text parts is inputs counted = record {
  outputs = output_values is.nodes inputs;
  meaning_is = mean lang is.tree is.nodes inputs is.lowered.nodes_are (counted ∙ inputs_are law lang text parts is);
  as_many = length-map is.nodes.outputs _ ∙ sym (ap (λ (p : Parts). p.outputs) is.laid_out);
  zeros = size_for (1 + length is.nodes.outputs) - (1 + length (output_values is.nodes inputs));
  values_are = ap (λ (p : Parts). layer_values p inputs 0) is.laid_out ∙ stand is.nodes inputs (lists lang is.tree is.nodes is.lowered.nodes_are);
}
