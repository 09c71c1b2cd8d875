use Rattle.std.proofs.Common.{◌<◌, arith}
use Rattle.circuit_core.specs.Parts.{height}
use Rattle.gkr_layers.proofs.Widths.{width_more}
use Rattle.gkr_layers.proofs.counts.width_below.Goals as goal

pub loop-layer-preserved : goal.loop-layer-preserved
loop-layer-preserved c =
    let p = c.args.circuit.now.parts in
    let above : c.loop-layer.layer < height c.args.circuit.now.parts = omega (arith, c.loop-layer-test.true, c.height-layer-end.ensures) in
    let more = width_more p c.loop-layer.layer c.loop-layer.width above c.loop-layer.invariant.sum in
    record {
      sum = omega (arith, more, c.coordinates-width.ensures.value);
      most = omega (arith, c.coordinates-width.ensures.most, c.loop-layer.invariant.most);
    }
