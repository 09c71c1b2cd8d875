-- The ranges of the jobs passed are back
use Rattle.std.proofs.Common.{◌≡◌, ◌≤◌, ℕ, length, get_or}
use Rattle.sumcheck_prove.specs.declared.jobs.Job.{Job}
use Rattle.sumcheck_prove.proofs.gathering.collect_all.Given as goal

abbrev pub invariant-loop-k : goal.invariant-loop-k
invariant-loop-k l = record {
  len : length l.jobs ≡ length l.fn.jobs;
  collecting : l.collecting ≡ record l.fn.collecting { back = l.k };
  rest : (j : ℕ) (job : Job) → l.k ≤ j → get_or l.jobs j job ≡ get_or l.fn.jobs j job;
}
