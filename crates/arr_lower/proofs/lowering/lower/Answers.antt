use Rattle.std.proofs.Common.{◌≡◌, ap, sym, ◌∙◌, arith}
use Rattle.arr_ast.specs.ProgramTree.{program_tree}
use Rattle.arr_run.specs.Program.{end_of}
use Rattle.arr_lower.specs.Lowering.{Kept, nodes}
use Rattle.arr_lower.proofs.api.Counted.{none_made, never_refused, nodes-at_end, inputs_few}
use Rattle.arr_lower.proofs.lowering.lower.Goals as goal

pub list_of-requires-clause-made : goal.list_of-requires-clause-made
list_of-requires-clause-made c =
    let begins : ◌≡◌ {A = Kept} (record { nodes = c.new.result; outputs = c.new-2.result.items }) none_made = λ i. record { nodes = c.new.ensures i; outputs = c.new-2.ensures.items i } in
    nodes-at_end c.args.checked.now.lang (program_tree c.args.checked.now.program) c.args.checked.now.inputs _ c.run.new.machine c.in-Ok.field-0.counts begins c.args.checked.now.inputs_counted c.in-Ok.ensures.end

pub list_of-requires-clause-few : goal.list_of-requires-clause-few
list_of-requires-clause-few c =
    let few = inputs_few c.args.checked.now.lang (program_tree c.args.checked.now.program) _ (list_of-requires-clause-made c) in
    omega (arith, few, c.args.checked.now.inputs_counted)

pub unreachable-requires : goal.unreachable-requires
unreachable-requires c =
    let begins : ◌≡◌ {A = Kept} (record { nodes = c.new.result; outputs = c.new-2.result.items }) none_made = λ i. record { nodes = c.new.ensures i; outputs = c.new-2.ensures.items i } in
    let refused = rw c.in-Err-Bad.field-0-is at (rw c.in-Err-Bad.is at c.run.ensures.end) in
    never_refused c.args.checked.now.lang (program_tree c.args.checked.now.program) _ c.args.checked.now.accepted (sym (ap (end_of nodes c.args.checked.now.lang (program_tree c.args.checked.now.program)) begins) ∙ refused)
