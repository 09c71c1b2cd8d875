-- The entries passed have gone on
use Rattle.std.proofs.Common.{◌≡◌, ◌+◌, ◌*◌, ◌≤◌, length, get_or}
use Rattle.field_ext.specs.Field.{K, k_ops, zero_k, mul_k}
use Rattle.field_ext.specs.Sums.{sum_below}
use Rattle.run_wiring.specs.declared.carries.Carries.{Carries}
use Rattle.run_wiring.specs.Entries.{carries_of, weighed, before_column}
use Rattle.run_wiring.proofs.digit_sum.add_column.Given as goal

abbrev pub invariant-loop-i : goal.invariant-loop-i
invariant-loop-i g l = record {
  size : length l.next ≡ 36;
  sums : (of : Carries → K) → weighed l.next of ≡ sum_below k_ops l.i (λ i. mul_k (get_or l.table i zero_k) (before_column l.column of (carries_of i)));
  steps : l.steps ≤ l.fn.steps + 2 * l.i;
}
