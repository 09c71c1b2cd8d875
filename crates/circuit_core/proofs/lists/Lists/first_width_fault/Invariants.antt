use Rattle.std.proofs.Common.{◌≡◌, None}
use Rattle.circuit_core.specs.Sound.{greatest}
use Rattle.circuit_core.specs.Faults.{first_below, width_fault}
use Rattle.circuit_core.proofs.lists.Lists.first_width_fault.Given as goal

abbrev pub invariant-loop-layer : goal.invariant-loop-layer
invariant-loop-layer l = first_below l.layer (width_fault greatest l.self) ≡ None
