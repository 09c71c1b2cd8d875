use Rattle.std.proofs.Common.{◌≡◌, false}
use Rattle.proof_wire.specs.Lists.{round_messages}
use Rattle.gkr_verify.proofs.RoundSteps.{Progress}
use Rattle.gkr_verify.proofs.rounds.check_rounds.Given as goal

abbrev pub invariant-loop-j : goal.invariant-loop-j
invariant-loop-j g l = record {
  ready : l.rounds.waiting ≡ false;
  taken : l.rounds.taken ≡ l.j;
  progress : Progress g.C.Challenges.source (g.C.Challenges.state l.fn.challenges) l.fn.claim (round_messages l.messages) l.j (g.C.Challenges.state l.challenges) l.rounds.claim l.drawn;
}
