use Rattle.std.proofs.Common.{arith}
use Rattle.gkr_layers.proofs.api.Circuits.{circuit_count}
use Rattle.gkr_layers.proofs.counts.challenge_count.Goals as goal

pub returns : goal.returns
returns c = omega (arith, circuit_count c.args.circuit.now.parts, c.coordinates.ensures.value, c.width_below.ensures.sum, c.height.ensures)
