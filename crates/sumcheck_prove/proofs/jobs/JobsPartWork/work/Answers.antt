use Rattle.std.proofs.Common.{rules}
use Rattle.sumcheck_prove.proofs.jobs.JobsPartWork.work.Goals as goal

pub returns-in-Some : goal.returns-in-Some
returns-in-Some g = search rules

pub returns-in-Some-take : goal.returns-in-Some-take
returns-in-Some-take g = search rules
