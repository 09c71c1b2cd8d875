-- The leaves so far are those passed
use Rattle.std.proofs.Common.{◌≡◌}
use Rattle.std.specs.List.{filter, range_with_len}
use Rattle.layer_compile.specs.Rows.{is_at}
use Rattle.layer_compile.proofs.plan.Plan.row_of_leaves.Given as goal

abbrev pub invariant-loop-k : goal.invariant-loop-k
invariant-loop-k l = l.row.items ≡ filter (is_at l.self.list.now 0) (range_with_len 0 l.k)
