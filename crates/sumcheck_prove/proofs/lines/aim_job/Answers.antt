use Rattle.std.proofs.Common.{rules}
use Rattle.sumcheck_prove.proofs.lines.aim_job.Goals as goal

pub aim-requires-clause-start : goal.aim-requires-clause-start
aim-requires-clause-start g = search rules

pub aim-requires-clause-end : goal.aim-requires-clause-end
aim-requires-clause-end g = search rules

pub returns-in-Some : goal.returns-in-Some
returns-in-Some g = search rules

pub returns-in_default : goal.returns-in_default
returns-in_default g = search rules
