use Rattle.std.proofs.Common.{rules}
use Rattle.job_core.proofs.jobs.Jobs.step.Goals as goal

pub returns-in-Withdraw : goal.returns-in-Withdraw
returns-in-Withdraw c = search rules
