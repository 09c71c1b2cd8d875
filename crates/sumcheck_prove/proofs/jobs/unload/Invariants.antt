-- The parts of the jobs passed are out
use Rattle.std.proofs.Common.{◌≡◌, ℕ, ◌≤◌, ◌++◌, map, take, drop, length, get_or}
use Rattle.sumcheck_prove.specs.declared.jobs.Job.{Job}
use Rattle.sumcheck_prove.proofs.jobs.unload.Given as goal

abbrev pub invariant-loop-k : goal.invariant-loop-k
invariant-loop-k l = record {
  len : length l.jobs ≡ length l.fn.jobs;
  rest : (j : ℕ) (job : Job) → l.k ≤ j → get_or l.jobs j job ≡ get_or l.fn.jobs j job;
  parts : l.parts ≡ map (λ (job : Job). job.part) (take l.k l.fn.jobs) ++ drop l.k l.fn.parts;
}
