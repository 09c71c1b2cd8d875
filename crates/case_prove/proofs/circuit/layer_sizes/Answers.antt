use Rattle.std.proofs.Common.{rules}
use Rattle.case_prove.proofs.LayerSizes.{one_more}
use Rattle.case_prove.proofs.circuit.layer_sizes.Goals as goal

pub loop-layer-preserved : goal.loop-layer-preserved
loop-layer-preserved c =
    one_more c.args.circuit.now.parts c.loop-layer.layer c.layer_size.result c.loop-layer.sizes.items _ c.loop-layer.invariant c.in_ok-push.ensures.items c.layer_size.ensures

pub returns : goal.returns
returns c = search rules
