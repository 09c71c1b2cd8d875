-- The table has the layer's size, and each place of it is written
use Rattle.std.proofs.Common.{length, map, sym, ◌∙◌, ap, arith}
use Rattle.field_ext.specs.Field.{k_ops, embed_k}
use Rattle.circuit_core.specs.Parts.{padded_values}
use Rattle.circuit_core.specs.Sound.{exponent_at}
use Rattle.circuit_core.proofs.api.Sizes.{size_of}
use Rattle.circuit_eval.proofs.api.LayerTables.{same_exponent}
use Rattle.wiring_poly.proofs.api.Identity.{written_back}
use Rattle.gkr_layers.specs.Sumcheck.{difference}
use Rattle.gkr_layers.proofs.api.Shapes.{outputs_room}
use Rattle.audit_core.proofs.Difference.{table_width}
use Rattle.audit_core.proofs.outputs.claimed_less_true.Goals as goal

pub subtract_from-requires : goal.subtract_from-requires
subtract_from-requires c =
    let circuit = c.args.circuit.now in
    let table = c.table.ensures ∙ c.requires.values.1.each 0 (omega arith) in
    let size = c.deref_mut.ensures.len ∙ c.in_ok-items.items.ok.0 ∙ ap length (c.in_ok-items.ensures ∙ table) ∙ table_width circuit c.requires.values.0 c.args.outputs.now c.requires.outputs in
    omega (arith, size, c.requires.outputs, outputs_room circuit)

pub returns-clause-k : goal.returns-clause-k
returns-clause-k c =
    let circuit = c.args.circuit.now in
    let table = c.table.ensures ∙ c.requires.values.1.each 0 (omega arith) in
    let size = c.deref_mut.ensures.len ∙ c.in_ok-items.items.ok.0 ∙ ap length (c.in_ok-items.ensures ∙ table) ∙ table_width circuit c.requires.values.0 c.args.outputs.now c.requires.outputs in
    let written = c.in-Ok.ensures.table ∙ written_back c.in_ok-items.items.items c.subtract_from.new.items c.in_ok-items.items.len (c.subtract_from.auto.items ∙ c.deref_mut.ensures.len) in
    same_exponent c.in-Ok.table.k (exponent_at c.args.circuit.now.parts 0)
    (sym c.in-Ok.table.whole ∙ ap length written ∙ c.subtract_from.auto.items ∙ size ∙ (size_of circuit 0 (omega arith)).0)

pub returns-clause-items : goal.returns-clause-items
returns-clause-items c inputs tables =
    let circuit = c.args.circuit.now in
    let table = c.table.ensures ∙ tables.each 0 (omega arith) in
    let old = c.deref_mut.ensures.value ∙ c.in_ok-items.ensures ∙ table in
    let size = ap length old ∙ table_width circuit inputs c.args.outputs.now c.requires.outputs in
    c.in-Ok.ensures.table
    ∙ written_back c.in_ok-items.items.items c.subtract_from.new.items c.in_ok-items.items.len (c.subtract_from.auto.items ∙ c.deref_mut.ensures.len)
    ∙ c.subtract_from.ensures
    ∙ (λ i. difference k_ops (map embed_k (padded_values (size i) c.args.outputs.now)) (old i))
