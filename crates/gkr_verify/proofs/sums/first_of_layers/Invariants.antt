use Rattle.gkr_verify.proofs.SumSteps.{SumsHeld}
use Rattle.gkr_verify.proofs.sums.first_of_layers.Given as goal

abbrev pub invariant-loop-layer : goal.invariant-loop-layer
invariant-loop-layer g l = SumsHeld g.C.Challenges.source (g.C.Challenges.state l.fn.challenges) l.fn.first l.layers l.layer (g.C.Challenges.state l.challenges) l.claim
