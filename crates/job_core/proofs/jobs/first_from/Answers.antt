use Rattle.std.proofs.Common.{rules, sym}
use Rattle.job_core.specs.declared.entry.JobState.TheVariants.{Queued}
use Rattle.job_core.proofs.Firsts.{first_here, none_here, one_more}
use Rattle.job_core.proofs.jobs.first_from.Goals as goal

pub returns-then-is_queued : goal.returns-then-is_queued
returns-then-is_queued c = first_here c.args.jobs.now c.loop-job.job c.loop-job.invariant Queued (search rules) (search rules)

pub loop-job-preserved : goal.loop-job-preserved
loop-job-preserved c = one_more c.args.jobs.now c.loop-job.job c.loop-job.invariant (search rules)

pub returns : goal.returns
returns c = sym (none_here c.args.jobs.now c.loop-job.job c.loop-job.invariant (search rules))
