use Rattle.std.proofs.Common.{◌≡◌, ◌≤◌, length, map, take, vec_len, vec_capacity}
use Rattle.script_text.specs.declared.script.MarkedJob.{MarkedJob}
use Rattle.script_prove.proofs.history.client_numbers.Given as goal

abbrev pub invariant-loop-job : goal.invariant-loop-job
invariant-loop-job l = record {
  many : vec_len l.clients ≡ l.job-index;
  capacity : length l.script ≤ vec_capacity l.clients;
  done : l.clients.items ≡ map (λ (job : MarkedJob). job.client) (take l.job-index l.script);
}
