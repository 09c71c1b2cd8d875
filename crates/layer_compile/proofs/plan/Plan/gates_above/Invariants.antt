-- The gates so far are those of the nodes passed
use Rattle.std.proofs.Common.{◌≡◌, ◌∷◌, map, take}
use Rattle.circuit_core.specs.Parts.{zero_gate}
use Rattle.layer_compile.specs.Circuits.{gate_above}
use Rattle.layer_compile.proofs.plan.Plan.gates_above.Given as goal

abbrev pub invariant-loop-k : goal.invariant-loop-k
invariant-loop-k l = l.gates.items ≡ zero_gate ∷ map (gate_above l.self.list.now l.height) (take l.k-index l.nodes)
