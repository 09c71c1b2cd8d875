use Rattle.std.proofs.Common.{◌≡◌, take, drop}
use Rattle.proof_wire.specs.Spelling.{all_coefficients, coefficient_count}
use Rattle.proof_wire.specs.Lists.{HaveShape}
use Rattle.proof_wire.proofs.cutting.cut.Given as goal

abbrev pub invariant-loop-layer : goal.invariant-loop-layer
invariant-loop-layer l =
    (l.from ≡ coefficient_count l.form (take l.layer (drop 1 l.shape.ks)))
    × (all_coefficients l.layers.items ≡ take l.from l.elements)
    × HaveShape l.form (take l.layer (drop 1 l.shape.ks)) l.layers.items
