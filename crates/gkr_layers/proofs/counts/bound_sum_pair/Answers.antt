use Rattle.std.proofs.Common.{arith}
use Rattle.circuit_core.specs.Sound.{exponent_at}
use Rattle.gkr_layers.specs.Layers.{layers_of}
use Rattle.gkr_layers.proofs.api.Circuits.{length-layers}
use Rattle.gkr_layers.proofs.Few.{pair_bounds_add}
use Rattle.gkr_layers.proofs.counts.bound_sum_pair.Goals as goal

pub returns : goal.returns
returns c =
    let p = c.args.circuit.now.parts in
    omega (arith, pair_bounds_add (exponent_at p 0) (layers_of p), length-layers p 0 p.layers, c.coordinates.ensures.value, c.width_below.ensures.sum, c.height.ensures)
