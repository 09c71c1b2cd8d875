use Rattle.job_core.specs.JobMachine.{AreNotQueued}
use Rattle.job_core.proofs.jobs.first_from.Given as goal

abbrev pub invariant-loop-job : goal.invariant-loop-job
invariant-loop-job l = AreNotQueued l.jobs l.job
