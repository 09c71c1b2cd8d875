use Rattle.std.proofs.Common.{◌≡◌, false}
use Rattle.gkr_verify.proofs.FillSteps.{RoundsFilled}
use Rattle.gkr_verify.proofs.filling.fill_rounds.Given as goal

abbrev pub invariant-loop-pair : goal.invariant-loop-pair
invariant-loop-pair g l = record {
  ready : l.rounds.waiting ≡ false;
  filled : RoundsFilled g.C.Challenges.source (g.C.Challenges.state l.fn.challenges) l.fn.claim l.pairs l.fn.drawn.items l.pair-index (g.C.Challenges.state l.challenges) l.rounds.claim l.made.items l.drawn.items;
}
