-- Each place written makes the difference of the tables
use Rattle.std.proofs.lemmas.Grind.{common_steps}
use Rattle.std.proofs.Common.{◌≡◌, List, length, map, sym, ◌∙◌, arith, ext_get_or}
use Rattle.field_ext.specs.Field.{K, k_ops, zero_k, embed_k}
use Rattle.circuit_core.specs.Parts.{padded_values}
use Rattle.gkr_layers.specs.Sumcheck.{difference}
use Rattle.gkr_layers.proofs.api.Circuits.{length-table}
use Rattle.audit_core.proofs.Difference.{read-difference, length-difference}
use Rattle.audit_core.proofs.outputs.subtract_from.Goals as goal

pub returns : goal.returns
returns c =
    let old : List K = c.args.items.now in
    let claimed : List K = map embed_k (padded_values (length c.args.items.now) c.args.outputs.now) in
    let same : length claimed ≡ length old = length-table (length c.args.items.now) c.args.outputs.now c.requires in
    let inv = c.loop-g.invariant in
    ext_get_or zero_k c.loop-g.items (difference k_ops claimed old) (inv.size ∙ sym (length-difference claimed old same))
    (λ j u. inv.written j (omega (arith, u, inv.size)) ∙ sym (read-difference claimed old j same (omega (arith, u, inv.size))))

pub loop-g-preserved : goal.loop-g-preserved
loop-g-preserved c = grind (arith, common_steps)
