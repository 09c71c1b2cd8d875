-- The last node is the one of this number
use Rattle.std.proofs.Common.{◌≡◌, ◌+◌, length}
use Rattle.circuit_tests.proofs.layouts.doubled.Given as goal

abbrev pub invariant-loop : goal.invariant-loop
invariant-loop l = record {
  last : l.last ≡ l.counter;
  nodes : length l.list.nodes ≡ l.counter + 1;
  outputs : length l.list.outputs ≡ 0;
}
