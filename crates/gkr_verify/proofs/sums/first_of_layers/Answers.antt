use Rattle.std.proofs.Common.{◌+◌, ℕ, List, refl, sym, ◌∙◌}
use Rattle.transcript_fs.specs.Source.{Source}
use Rattle.gkr_layers.proofs.api.Accepted.{differ}
use Rattle.gkr_verify.specs.Rounds.{sum_failure}
use Rattle.gkr_verify.proofs.SumSteps.{SumsHeld, layer_has, layer_held, layer_stops}
use Rattle.gkr_verify.proofs.sums.first_of_layers.Goals as goal

pub sums_of_layer-requires-clause-has : goal.sums_of_layer-requires-clause-has
sums_of_layer-requires-clause-has g c =
    layer_has g.C.Challenges.source (g.C.Challenges.state c.args.challenges.now) c.args.first c.args.layers.now c.loop-layer.layer (g.C.Challenges.state c.loop-layer.challenges) c.loop-layer.claim c.loop-layer.invariant c.index-layers-layer.result c.loop-layer-test.true c.index-layers-layer.is

pub returns-in-Err-clause-first : goal.returns-in-Err-clause-first
returns-in-Err-clause-first g c =
    layer_stops g.C.Challenges.source (g.C.Challenges.state c.args.challenges.now) c.args.first c.args.layers.now c.loop-layer.layer (g.C.Challenges.state c.loop-layer.challenges) c.loop-layer.claim c.loop-layer.invariant c.index-layers-layer.result c.loop-layer-test.true c.index-layers-layer.is
    (sum_failure c.loop-layer.layer c.in-Err.fault) (differ refl) (c.in-Err.ensures.fails c.loop-layer.layer)
    ∙ sym c.of.ensures

pub loop-layer-preserved : goal.loop-layer-preserved
loop-layer-preserved g c =
    let source : Source = g.C.Challenges.source in
    let s0 : List ℕ = g.C.Challenges.state c.args.challenges.now in
    let s : List ℕ = g.C.Challenges.state c.loop-layer.challenges in
    let layer = c.index-layers-layer.result in
    coe 0 1 (j. SumsHeld source s0 c.args.first c.args.layers.now (c.loop-layer.layer + 1) (sym c.in-Ok.ensures.state j) (sym c.in-Ok.ensures.claim j))
    (layer_held source s0 c.args.first c.args.layers.now c.loop-layer.layer s c.loop-layer.claim c.loop-layer.invariant layer c.loop-layer-test.true c.index-layers-layer.is (c.in-Ok.ensures.holds c.loop-layer.layer))
