use Rattle.std.proofs.Common.{◌≡◌, ℕ, List, Some, ap, sym, ◌∙◌}
use Rattle.arr_ast.specs.ProgramTree.{program_tree}
use Rattle.node_core.specs.declared.node.Node.{Node}
use Rattle.node_core.specs.Nodes.{Nodes}
use Rattle.arr_lower.specs.Lowering.{Kept, nodes_of}
use Rattle.arr_lower.proofs.api.Counted.{is-list}
use Rattle.arr_lower.proofs.lowering.list_of.Goals as goal

abbrev list_with : ℕ → List Node → List ℕ → Nodes
list_with inputs nodes outputs = record { inputs = inputs; nodes = nodes; outputs = outputs }

pub of-requires : goal.of-requires
of-requires c =
    let e : nodes_of c.args.checked.now.lang (program_tree c.args.checked.now.program) ≡ Some (list_with c.args.checked.now.inputs c.finish-nodes.result.items c.lowering.inside.outputs.items) =
    c.requires.made
    ∙ ap (λ (kept : Kept). Some (list_with c.args.checked.now.inputs kept.nodes kept.outputs)) (sym c.lowering.view_is)
    ∙ ap (λ (nodes : List Node). Some (list_with c.args.checked.now.inputs nodes c.lowering.inside.outputs.items)) (sym c.finish-nodes.ensures) in
    is-list c.args.checked.now.lang (program_tree c.args.checked.now.program) (list_with c.args.checked.now.inputs c.finish-nodes.result.items c.lowering.inside.outputs.items) e
