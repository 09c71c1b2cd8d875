-- A third table that isn't kept reads as the zeros that it is
use Rattle.std.proofs.Common.{List, ◌∙◌, sym, ap}
use Rattle.field_ext.specs.Field.{K, k_ops}
use Rattle.field_ext.specs.Sums.{sum_below}
use Rattle.table_parts.specs.Columns.{zeros}
use Rattle.table_parts.specs.Tables.{pair_at}
use Rattle.table_parts.proofs.pairs.scaled_sum.Goals as goal

pub returns-in-Some-clause-sum : goal.returns-in-Some-clause-sum
returns-in-Some-clause-sum g c e =
    c.pair_sum.ensures.sum e ∙ ap (λ (h : List K). sum_below k_ops c.args.pairs (pair_at k_ops c.args.table.now (g.S.Reading.items c.args.scales.now) h e)) c.in-Some.ensures.kept

pub returns-in-None-clause-sum : goal.returns-in-None-clause-sum
returns-in-None-clause-sum g c e =
    c.pair_sum-in-None.ensures.sum e
    ∙ ap (λ (h : List K). sum_below k_ops c.args.pairs (pair_at k_ops c.args.table.now (g.S.Reading.items c.args.scales.now) h e)) (ap zeros c.len.ensures ∙ sym c.in-None.ensures.zeros)
