use Rattle.std.proofs.Common.{◌≡◌, map, take}
use Rattle.proof_two.specs.Lists.{short_layer}
use Rattle.proof_two.proofs.shortening.shorten.Given as goal

abbrev pub invariant-loop-layer : goal.invariant-loop-layer
invariant-loop-layer l = l.layers.items ≡ map short_layer (take l.layer-index l.from)
