-- The layers passed have their wirings
use Rattle.run_wiring.proofs.LayersOfRuns.{AreFirst}
use Rattle.run_wiring.proofs.layer_wiring.wirings.Given as goal

abbrev pub invariant-loop-layer : goal.invariant-loop-layer
invariant-loop-layer l = AreFirst l.circuit.parts l.layer l.wirings.items
