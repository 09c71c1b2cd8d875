-- The nodes and outputs passed are in the list
use Rattle.std.proofs.Common.{◌≡◌, length}
use Rattle.circuit_tests.proofs.layouts.program.Given as goal

abbrev pub invariant-loop-k : goal.invariant-loop-k
invariant-loop-k l = record {
  inputs : l.list.inputs ≡ l.inputs;
  nodes : length l.list.nodes ≡ l.k;
  outputs : length l.list.outputs ≡ 0;
}

abbrev pub invariant-loop-output : goal.invariant-loop-output
invariant-loop-output l = record {
  nodes : length l.list.nodes ≡ length l.nodes;
  outputs : length l.list.outputs ≡ l.output-index;
}
