-- Seven elements for each coordinate below the outputs, and one more a layer
use Rattle.std.proofs.Common.{arith}
use Rattle.gkr_layers.specs.Layers.{layers_of}
use Rattle.gkr_layers.proofs.api.Circuits.{length-layers}
use Rattle.live_session.proofs.api.LayoutSteps.{due}
use Rattle.live_session.proofs.layout.elements_due.Goals as goal

pub returns-clause-value : goal.returns-clause-value
returns-clause-value c =
    let p = c.args.circuit.now.parts in
    omega (arith, due (layers_of p), length-layers p 0 p.layers, c.width_below.ensures.sum, c.height.ensures)
