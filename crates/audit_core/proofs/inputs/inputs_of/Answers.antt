-- All leaves have their values with the inputs that are read
use Rattle.std.proofs.Common.{◌≡◌, List, [], length, get_or, ◌∙◌, ap, arith}
use Rattle.field_ext.specs.Field.{F}
use Rattle.circuit_core.specs.Parts.{Parts, height, input_table}
use Rattle.circuit_eval.specs.Tables.{table_of}
use Rattle.wiring_poly.proofs.api.Identity.{written_back}
use Rattle.audit_core.specs.Leaves.{AreLeafValues, GiveValues}
use Rattle.audit_core.proofs.Leaves.{leaf_values, same_table}
use Rattle.audit_core.proofs.inputs.inputs_of.Goals as goal

pub returns-clause-values : goal.returns-clause-values
returns-clause-values c inputs tables =
    let p : Parts = c.args.circuit.now.parts in
    let read : List F = c.read_leaves.new.inputs in
    let leaves = c.leaves.ensures.value in
    let table : c.table.result.now.items ≡ table_of p inputs (height p) = c.table.ensures ∙ ap (λ i. get_or c.args.values.now i []) c.height.ensures ∙ tables.each (height p) (omega arith) in
    let values : AreLeafValues inputs c.leaves.result.now c.table.result.now.items = coe 1 0 (i. AreLeafValues inputs (leaves i) (table i)) (leaf_values p inputs) in
    let give : GiveValues read inputs p.leaves (length p.leaves) = coe 0 1 (i. GiveValues read inputs (leaves i) (length (leaves i))) (c.read_leaves.ensures inputs values) in
    ap (input_table p) (written_back c.in_ok-inputs.inputs.items read c.in_ok-inputs.inputs.len (c.read_leaves.auto.inputs ∙ c.deref_mut.ensures.len)) ∙ same_table p read inputs give
