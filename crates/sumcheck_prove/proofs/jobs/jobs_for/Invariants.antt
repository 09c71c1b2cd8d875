-- As many jobs as turns
use Rattle.std.proofs.Common.{◌≡◌, vec_len}
use Rattle.sumcheck_prove.proofs.jobs.jobs_for.Given as goal

abbrev pub invariant-loop : goal.invariant-loop
invariant-loop l = vec_len l.jobs ≡ l.counter
