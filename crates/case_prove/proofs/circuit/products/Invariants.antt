use Rattle.std.proofs.Common.{◌≡◌, ◌≤◌, take}
use Rattle.case_prove.specs.Circuits.{products_of}
use Rattle.case_prove.proofs.circuit.products.Given as goal

abbrev pub invariant-loop-gate : goal.invariant-loop-gate
invariant-loop-gate l = (l.count ≡ products_of (take l.gate-index l.gates)) × (l.count ≤ l.gate-index)
