-- The parts passed are in their jobs
use Rattle.std.proofs.Common.{◌≡◌, ℕ, ◌≤◌, ◌++◌, map, take, drop, length, get_or}
use Rattle.table_parts.specs.PartTables.{PartTables}
use Rattle.sumcheck_prove.specs.Jobs.{job_of}
use Rattle.sumcheck_prove.proofs.jobs.load.Given as goal

abbrev pub invariant-loop-k : goal.invariant-loop-k
invariant-loop-k l = record {
  len : length l.parts ≡ length l.fn.parts;
  rest : (j : ℕ) (part : PartTables) → l.k ≤ j → get_or l.parts j part ≡ get_or l.fn.parts j part;
  jobs : l.jobs ≡ map (job_of l.r l.none) (take l.k l.fn.parts) ++ drop l.k l.fn.jobs;
}
