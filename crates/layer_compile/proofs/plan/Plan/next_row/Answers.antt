-- The last row is that of the outputs
use Rattle.std.proofs.Common.{◌≡◌, ◌∙◌, suc, ap, sym, arith}
use Rattle.std.proofs.lemmas.List.Elements.{All-same}
use Rattle.layer_compile.specs.Levels.{height_of}
use Rattle.layer_compile.specs.Rows.{row, IsAbove}
use Rattle.layer_compile.proofs.Standing.{row_above, row_top}
use Rattle.layer_compile.proofs.plan.Plan.next_row.Goals as goal

pub gates_above-requires-clause-nodes : goal.gates_above-requires-clause-nodes
gates_above-requires-clause-nodes c =
    let list = c.args.self.now.list.now in
    let h = c.args.height in
    let top : height_of list ≡ suc h = omega (arith, c.if-height-top.true, c.args.self.now.topmost) in
    let nodes = c.deref.ensures.value ∙ c.in_ok-nodes.ensures.items ∙ c.outputs.ensures.value ∙ sym (row_top list) ∙ ap (row list) top in
    All-same (IsAbove list h) c.deref.result.now (row list (suc h)) nodes (row_above list c.requires.fine h c.requires.under)
