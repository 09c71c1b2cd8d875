use Rattle.std.proofs.Common.{rules}
use Rattle.sumcheck_verify.proofs.rounds.Rounds.bind.Goals as goal

pub returns-clause-claim : goal.returns-clause-claim
returns-clause-claim c = search rules
