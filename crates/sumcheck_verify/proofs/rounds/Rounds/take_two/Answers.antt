use Rattle.std.proofs.Common.{rules}
use Rattle.sumcheck_verify.proofs.rounds.Rounds.take_two.Goals as goal

pub returns-clause-middle : goal.returns-clause-middle
returns-clause-middle c = search rules
