-- One more layer
use Rattle.std.proofs.Common.{List, ◌+◌, sym, subst}
use Rattle.run_wiring.specs.declared.layer_wiring.LayerWiring.{LayerWiring}
use Rattle.run_wiring.proofs.LayersOfRuns.{AreFirst, one_more}
use Rattle.run_wiring.proofs.layer_wiring.wirings.Goals as goal

pub loop-layer-preserved : goal.loop-layer-preserved
loop-layer-preserved c =
    subst (λ (wirings : List LayerWiring). AreFirst c.args.circuit.now.parts (c.loop-layer.layer + 1) wirings) (sym c.in_ok-push.ensures.items)
    (one_more c.args.circuit.now.parts c.loop-layer.layer c.loop-layer.wirings.items c.in_ok-wiring_of.field-0 c.in_ok-wiring_of.ensures c.loop-layer.invariant)
