use Rattle.gkr_verify.proofs.FillSteps.{LayersFilled}
use Rattle.gkr_verify.proofs.filling.fill_layers.Given as goal

abbrev pub invariant-loop-layer : goal.invariant-loop-layer
invariant-loop-layer g l = LayersFilled g.C.Challenges.source (g.C.Challenges.state l.fn.challenges) l.fn.first l.layers l.fn.drawn.items l.layer-index (g.C.Challenges.state l.challenges) l.claim l.made.items l.drawn.items
