-- The sums so far are those of the pairs passed
use Rattle.std.proofs.Common.{◌≡◌, ◌+◌}
use Rattle.field_ext.specs.Field.{K, k_ops}
use Rattle.field_ext.specs.Sums.{sum_below}
use Rattle.gate_gather.specs.LazySum.{element_of}
use Rattle.table_parts.specs.Tables.{pair_at, quadratic_at}
use Rattle.table_parts.proofs.LazySums.{IsUpTo}
use Rattle.table_parts.proofs.pairs.pair_sum.Given as goal

abbrev pub invariant-loop-j : goal.invariant-loop-j
invariant-loop-j g l = record {
  sum : (e : K) → quadratic_at k_ops (element_of l.at_zero) (element_of l.at_one) (element_of l.square) e ≡ sum_below k_ops l.j (pair_at k_ops l.table (g.S.Reading.items l.scales) (g.T.Reading.items l.shifts) e);
  at_zero : IsUpTo l.j l.at_zero;
  at_one : IsUpTo l.j l.at_one;
  square : IsUpTo l.j l.square;
  steps : l.steps ≡ l.fn.steps + l.j;
}
