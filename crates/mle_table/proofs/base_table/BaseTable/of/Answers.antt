-- There is a power of two of values
use Rattle.std.proofs.Common.{sym, ◌∙◌}
use Rattle.mle_table.proofs.Powers.{one_power}
use Rattle.mle_table.proofs.base_table.BaseTable.of.Goals as goal

pub invariant_of-result : goal.invariant_of-result
invariant_of-result c = (
  sym c.len.ensures ∙ one_power c.len.result c.ilog2.result c.requires.0 c.ilog2.ensures.power_le c.ilog2.ensures.next_power_gt (c.len.ensures ∙ c.requires.1),
  tt,
)
