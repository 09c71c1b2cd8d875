-- The messages of the layers so far are counted, and those of the others are looked for in what is left
use Rattle.std.proofs.Common.{◌≡◌, ◌+◌, ◌*◌, ◌≤◌}
use Rattle.gkr_layers.specs.Layers.{layers_below, lower_exponents}
use Rattle.live_session.specs.Layout.{sizes_of, whole}
use Rattle.live_session.specs.Verifying.{lower}
use Rattle.live_session.proofs.layout.whole_messages.Given as goal

abbrev pub invariant-loop-layer : goal.invariant-loop-layer
invariant-loop-layer l = record {
  few : l.count ≤ 41 * l.layer;
  counted : whole (sizes_of (lower l.circuit.parts)) l.fn.n ≡ l.count + whole (sizes_of (lower_exponents (layers_below l.circuit.parts l.layer))) l.left;
}
