-- A second table that isn't kept is so many zeros
use Rattle.std.proofs.Common.{List, ◌∙◌, sym, ap}
use Rattle.field_ext.specs.Field.{K, k_ops}
use Rattle.field_ext.specs.Sums.{sum_below}
use Rattle.table_parts.specs.Columns.{zeros}
use Rattle.table_parts.specs.Tables.{pair_at}
use Rattle.table_parts.proofs.pairs.columns_sum.Goals as goal

pub returns-in-Some-clause-sum : goal.returns-in-Some-clause-sum
returns-in-Some-clause-sum g c e =
    c.scaled_sum.ensures.sum e ∙ ap (λ (s : List K). sum_below k_ops c.args.pairs (pair_at k_ops c.args.table.now s c.args.shifts.now.items e)) c.in-Some.ensures.kept

pub returns-in-None-clause-sum : goal.returns-in-None-clause-sum
returns-in-None-clause-sum g c e =
    c.unscaled_sum.ensures.sum e
    ∙ ap (λ (s : List K). sum_below k_ops c.args.pairs (pair_at k_ops c.args.table.now s c.args.shifts.now.items e)) (ap zeros c.len.ensures ∙ sym c.in-None.ensures.zeros)
