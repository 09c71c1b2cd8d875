use Rattle.std.proofs.Common.{◌≡◌, take, drop}
use Rattle.proof_two.specs.Spelling.{all_elements, element_count}
use Rattle.proof_two.specs.Lists.{HavePairs}
use Rattle.proof_two.proofs.cutting.cut.Given as goal

abbrev pub invariant-loop-layer : goal.invariant-loop-layer
invariant-loop-layer l =
    (l.from ≡ element_count (take l.layer (drop 1 l.shape.ks)))
    × (all_elements l.layers.items ≡ take l.from l.elements)
    × HavePairs (take l.layer (drop 1 l.shape.ks)) l.layers.items
