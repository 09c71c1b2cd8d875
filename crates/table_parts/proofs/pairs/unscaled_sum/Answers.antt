-- Where neither is kept the pairs give nothing
use Rattle.std.proofs.Common.{List, ◌∙◌, sym, ap}
use Rattle.field_ext.specs.Field.{K, k_ops}
use Rattle.field_ext.proofs.api.KLaws.{k_laws}
use Rattle.field_ext.specs.Sums.{sum_below}
use Rattle.table_parts.specs.Columns.{zeros}
use Rattle.table_parts.specs.Tables.{pair_at}
use Rattle.table_parts.proofs.api.LoopSteps.{pairs-of-zeros}
use Rattle.table_parts.proofs.Columns.{reads-zero, zeros-read}
use Rattle.table_parts.proofs.pairs.unscaled_sum.Goals as goal

pub returns-in-Some-clause-sum : goal.returns-in-Some-clause-sum
returns-in-Some-clause-sum g c e =
    c.pair_sum.ensures.sum e ∙ ap (λ (h : List K). sum_below k_ops c.args.pairs (pair_at k_ops c.args.table.now (zeros c.args.count) h e)) c.in-Some.ensures.kept

pub returns-in-None-clause-sum : goal.returns-in-None-clause-sum
returns-in-None-clause-sum g c e =
    c.no_pairs.ensures.value e
    ∙ sym (pairs-of-zeros k_ops k_laws c.args.table.now (zeros c.args.count) c.args.shifts.now.items e c.args.pairs (reads-zero c.args.count) (zeros-read c.args.shifts.now.items c.in-None.ensures.zeros))
