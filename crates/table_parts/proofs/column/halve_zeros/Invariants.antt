-- A step for each pair passed
use Rattle.std.proofs.Common.{◌≡◌, ◌+◌}
use Rattle.table_parts.proofs.column.halve_zeros.Given as goal

abbrev pub invariant-loop : goal.invariant-loop
invariant-loop g l = l.steps ≡ l.fn.steps + l.counter
