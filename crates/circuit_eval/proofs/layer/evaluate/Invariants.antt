-- The values of the gates passed are written
use Rattle.std.proofs.Common.{◌≡◌, ◌<◌, ℕ, get_or}
use Rattle.circuit_core.specs.Parts.{gate_value, zero_gate, zero_f}
use Rattle.circuit_eval.proofs.layer.evaluate.Given as goal

abbrev pub invariant-loop-g : goal.invariant-loop-g
invariant-loop-g l = (k : ℕ) → k < l.g → get_or l.values k zero_f ≡ gate_value l.below (get_or l.gates k zero_gate)
