-- The nodes of programs: their run over arrays of nodes. A node's number is its place in the list.
use Rattle.std.specs.Prelude.{List, [], ◌∷◌, ◌++◌, Option, Some, None, ℕ, Ok, Err, get_or, set}
use Rattle.arr_ast.specs.declared.lang.Lang.{Lang}
use Rattle.arr_ast.specs.ProgramTree.{ProgramTree}
use Rattle.arr_scope.specs.declared.counts.Counts.{Counts}
use Rattle.arr_scope.specs.Agrees.{Answer}
use Rattle.arr_run.specs.Operations.{Operations}
use Rattle.arr_run.specs.Program.{end_of, input_count}
use Rattle.arr_scope.specs.Shape.{size_of}
use Rattle.circuit_core.specs.declared.gate.Kind.TheVariants.{Mul}
use Rattle.node_core.specs.declared.node.Node.{Node}
use Rattle.node_core.specs.Nodes.{Nodes}
use Rattle.arr_lower.specs.Operations.{Made, one_made, leaf_nodes, constant_node, signed_nodes, pairwise_nodes, negated_nodes, single_nodes, pair_nodes}

-- all nodes made so far, and the outputs so far
pub record Kept : Type 0 where
  pub nodes : List Node
  pub outputs : List ℕ

-- an array whose nodes are made
abbrev pub kept_after : Kept → Made → List ℕ × Kept
kept_after kept made = (made.items, record kept { nodes = made.nodes })

-- an array is the list of its elements' nodes, row by row
abbrev pub nodes : Operations (List ℕ) Kept
nodes = record {
  input = λ shape kept. kept_after kept (leaf_nodes (size_of shape) kept.nodes);
  constant = λ value kept. kept_after kept (one_made (constant_node value kept.nodes));
  signed = λ sign left right kept. kept_after kept (signed_nodes sign left right kept.nodes);
  product = λ left right kept. kept_after kept (pairwise_nodes Mul left right kept.nodes);
  opposite = λ items kept. kept_after kept (negated_nodes items kept.nodes);
  single = λ function shape items kept.
      kept_after kept (single_nodes function shape items kept.nodes);
  pair = λ function shape other left right kept.
      kept_after kept (pair_nodes function shape other left right kept.nodes);
  element = λ items place. get_or items place 0 ∷ [];
  with_element = λ items place new. set items place (get_or new 0 0);
  output = λ items kept. record kept { outputs = kept.outputs ++ items };
}

abbrev pub nodes_at_end : ℕ → Answer (Counts × Kept) → Option Nodes
nodes_at_end inputs (Ok end) = Some (record {
  inputs = inputs;
  nodes = end.1.nodes;
  outputs = end.1.outputs;
})
nodes_at_end inputs (Err refused) = None

-- the nodes of a program of a language, where it isn't refused
abbrev pub nodes_of : Lang → ProgramTree → Option Nodes
nodes_of lang program =
    nodes_at_end (input_count program.inputs)
    (end_of nodes lang program (record { nodes = []; outputs = [] }))
