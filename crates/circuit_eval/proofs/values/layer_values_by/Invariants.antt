-- The tables so far are those of the layers passed but the last, from the leaves
use Rattle.std.proofs.Common.{◌≡◌, ◌+◌, map, length}
use Rattle.circuit_core.specs.Parts.{height, layer_values}
use Rattle.circuit_eval.proofs.api.LayerTables.{AreTold}
use Rattle.circuit_eval.proofs.values.layer_values_by.Given as goal

abbrev pub invariant-loop-layer : goal.invariant-loop-layer
invariant-loop-layer g l = record {
  below : l.below.items ≡ layer_values l.circuit.parts l.inputs l.layer;
  many : length l.tables.items + l.layer ≡ height l.circuit.parts;
  told : AreTold l.circuit l.inputs (map (λ t. t.items) l.tables.items);
}
