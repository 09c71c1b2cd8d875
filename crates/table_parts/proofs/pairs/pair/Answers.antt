-- The values at 0 and at 1 and the square coefficient of one pair
use Rattle.std.proofs.Common.{◌*◌, ◌+◌, arith, ◌∙◌, ap, ap₂}
use Rattle.std.proofs.lemmas.List.{get_or_read}
use Rattle.field_ext.specs.Field.{k_ops, zero_k, add_k, mul_k}
use Rattle.field_ext.proofs.api.KLaws.{k_laws}
use Rattle.gate_gather.specs.LazySum.{element_of}
use Rattle.table_parts.proofs.api.LoopSteps.{pair_is}
use Rattle.table_parts.proofs.pairs.pair.Goals as goal

pub returns-clause-value : goal.returns-clause-value
returns-clause-value g c e =
    let t = c.args.table.now in
    let j = c.args.j in
    pair_is k_ops k_laws t (g.S.Reading.items c.args.scales.now) (g.T.Reading.items c.args.shifts.now) j
    c.index-table-j.result c.index-table-j-2.result c.at-scale_low.result c.at-scale_high.result c.at.result c.at-2.result
    (element_of c.plus.result) (element_of c.plus-2.result) (element_of c.product-3.result) e
    (get_or_read t (2 * j) c.index-table-j.result (omega arith) c.index-table-j.is zero_k)
    (get_or_read t (2 * j + 1) c.index-table-j-2.result c.requires.table c.index-table-j-2.is zero_k)
    c.at-scale_low.ensures c.at-scale_high.ensures c.at.ensures c.at-2.ensures
    (c.plus.ensures.element ∙ ap (λ x. add_k x c.at.result) c.product.ensures.element)
    (c.plus-2.ensures.element ∙ ap (λ x. add_k x c.at-2.result) c.product-2.ensures.element)
    (c.product-3.ensures.element ∙ ap₂ mul_k c.difference.ensures.value c.sub.ensures)
