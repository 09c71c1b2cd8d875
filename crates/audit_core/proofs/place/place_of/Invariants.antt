-- The message is where the number that is left is in the layers from here on
use Rattle.std.proofs.Common.{◌≡◌}
use Rattle.gkr_layers.specs.Layers.{layers_of, layers_below}
use Rattle.audit_core.specs.Audit.{place_in}
use Rattle.audit_core.proofs.place.place_of.Given as goal

abbrev pub invariant-loop-layer : goal.invariant-loop-layer
invariant-loop-layer l = place_in (layers_of l.circuit.parts) 0 l.fn.number ≡ place_in (layers_below l.circuit.parts l.layer) l.layer l.left
