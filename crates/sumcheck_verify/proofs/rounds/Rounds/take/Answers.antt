use Rattle.std.proofs.Common.{rules}
use Rattle.sumcheck_verify.proofs.rounds.Rounds.take.Goals as goal

pub returns-then-not-equals-clause-fails : goal.returns-then-not-equals-clause-fails
returns-then-not-equals-clause-fails c = search rules

pub returns-then-not-equals-clause-had : goal.returns-then-not-equals-clause-had
returns-then-not-equals-clause-had c = search rules

pub returns-clause-holds : goal.returns-clause-holds
returns-clause-holds c = search rules

pub returns-then-not-equals-clause-unchanged : goal.returns-then-not-equals-clause-unchanged
returns-then-not-equals-clause-unchanged c = search rules

pub returns-then-not-equals-clause-claim : goal.returns-then-not-equals-clause-claim
returns-then-not-equals-clause-claim c = search rules
