use Rattle.std.proofs.Common.{◌≡◌, ◌+◌, ◌≤◌, drop}
use Rattle.case_text.specs.Served.{proved_count}
use Rattle.case_text.proofs.reply.served.proved_count.Given as goal

abbrev pub invariant-loop-job : goal.invariant-loop-job
invariant-loop-job l = record {
  few : l.count ≤ l.job-index;
  counted : l.count + proved_count (drop l.job-index l.jobs) ≡ proved_count l.jobs;
}
