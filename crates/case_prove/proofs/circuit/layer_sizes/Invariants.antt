use Rattle.std.proofs.Common.{◌≡◌, map}
use Rattle.std.specs.List.{range_with_len}
use Rattle.case_prove.specs.Circuits.{layer_size}
use Rattle.case_prove.proofs.circuit.layer_sizes.Given as goal

abbrev pub invariant-loop-layer : goal.invariant-loop-layer
invariant-loop-layer l = l.sizes.items ≡ map (layer_size l.circuit.parts) (range_with_len 0 l.layer)
