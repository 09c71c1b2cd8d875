use Rattle.std.proofs.Common.{◌≡◌, ◌≤◌, ◌*◌, ◌^◌, take, drop}
use Rattle.proof_two.specs.Spelling.{element_count}
use Rattle.proof_two.proofs.length.elements.Given as goal

abbrev pub invariant-loop-layer : goal.invariant-loop-layer
invariant-loop-layer l = (l.count ≡ element_count (take l.layer (drop 1 l.shape.ks))) × (l.count ≤ l.layer * (6 * 2 ^ 32))
