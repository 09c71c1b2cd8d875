-- How many parts there are so far
use Rattle.std.proofs.Common.{◌≡◌, ◌+◌, length}
use Rattle.table_parts.proofs.parts.fit_parts.Given as goal

abbrev pub invariant-loop : goal.invariant-loop
invariant-loop l = length l.parts.items + l.counter ≡ length l.fn.parts.items + l.count

abbrev pub invariant-loop-2 : goal.invariant-loop-2
invariant-loop-2 l = length l.parts.items ≡ l.counter
