-- The jobs passed have the points
use Rattle.std.proofs.Common.{◌≡◌, ℕ, ◌≤◌, ◌++◌, map, take, drop, length, get_or}
use Rattle.sumcheck_prove.specs.declared.jobs.Job.{Job}
use Rattle.sumcheck_prove.specs.Jobs.{aimed}
use Rattle.sumcheck_prove.proofs.lines.aim_all.Given as goal

abbrev pub invariant-loop-k : goal.invariant-loop-k
invariant-loop-k l = record {
  len : length l.jobs ≡ length l.fn.jobs;
  rest : (j : ℕ) (job : Job) → l.k ≤ j → get_or l.jobs j job ≡ get_or l.fn.jobs j job;
  jobs : l.jobs ≡ map (aimed l.b l.c) (take l.k l.fn.jobs) ++ drop l.k l.fn.jobs;
}
