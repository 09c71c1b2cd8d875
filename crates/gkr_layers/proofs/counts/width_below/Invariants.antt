use Rattle.std.proofs.Common.{◌≡◌, ◌+◌, ◌*◌, ◌≤◌}
use Rattle.gkr_layers.specs.Layers.{layers_of, total_exponent, layers_below}
use Rattle.gkr_layers.proofs.counts.width_below.Given as goal

abbrev pub invariant-loop-layer : goal.invariant-loop-layer
invariant-loop-layer l = record {
  sum : l.width + total_exponent (layers_below l.circuit.parts l.layer) ≡ total_exponent (layers_of l.circuit.parts);
  most : l.width ≤ 20 * l.layer;
}
