-- As many jobs as turns, each with a part of the line
use Rattle.std.proofs.Common.{◌≡◌, All, vec_len}
use Rattle.sumcheck_prove.specs.Jobs.{HasLine}
use Rattle.sumcheck_prove.proofs.lines.line_jobs.Given as goal

abbrev pub invariant-loop : goal.invariant-loop
invariant-loop l = record {
  count : vec_len l.jobs ≡ l.counter;
  lines : All (HasLine l.table.items) l.jobs.items;
}
