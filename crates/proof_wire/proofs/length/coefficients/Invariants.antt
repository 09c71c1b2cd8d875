use Rattle.std.proofs.Common.{◌≡◌, ◌≤◌, ◌*◌, ◌^◌, take, drop}
use Rattle.proof_wire.specs.Spelling.{coefficient_count}
use Rattle.proof_wire.proofs.length.coefficients.Given as goal

abbrev pub invariant-loop-layer : goal.invariant-loop-layer
invariant-loop-layer l = (l.count ≡ coefficient_count l.form (take l.layer (drop 1 l.shape.ks))) × (l.count ≤ l.layer * (7 * 2 ^ 32))
