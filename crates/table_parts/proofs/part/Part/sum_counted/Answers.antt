-- The sum is the part's
use Rattle.std.proofs.Common.{rules, ◌≡◌, ◌/◌, ◌∙◌}
use Rattle.field_ext.specs.Field.{k_ops}
use Rattle.field_ext.specs.Sums.{sum_below}
use Rattle.table_parts.specs.Tables.{pair_at}
use Rattle.table_parts.specs.PartTables.{summed_pairs}
use Rattle.table_parts.proofs.api.PairSums.{sum-is}
use Rattle.table_parts.proofs.part.Part.sum_counted.Goals as goal

pub returns-clause-sum : goal.returns-clause-sum
returns-clause-sum g c =
    let p = c.args.self.now in
    let pairs : c.min-2.result / 2 ≡ summed_pairs c.args.self.now = search rules in
    sum-is p c.pair_sum.result c.pair_sum.ensures.three (λ e. c.pair_sum.ensures.sum e ∙ (λ i. sum_below k_ops (pairs i) (λ j. pair_at k_ops p.table p.scales p.shifts e j)))
