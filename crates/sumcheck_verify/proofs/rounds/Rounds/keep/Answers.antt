use Rattle.std.proofs.Common.{rules}
use Rattle.sumcheck_verify.proofs.rounds.Rounds.keep.Goals as goal

pub returns-clause-taken : goal.returns-clause-taken
returns-clause-taken c = search rules

pub returns-clause-waiting : goal.returns-clause-waiting
returns-clause-waiting c = search rules

pub returns-clause-message : goal.returns-clause-message
returns-clause-message c = search rules
