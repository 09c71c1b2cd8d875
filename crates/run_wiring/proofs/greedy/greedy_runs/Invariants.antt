-- The gates passed are in runs
use Rattle.std.proofs.Common.{length, ◌-◌, ◌≤◌}
use Rattle.run_wiring.proofs.LongestRuns.{Done}
use Rattle.run_wiring.proofs.greedy.greedy_runs.Given as goal

abbrev pub invariant-loop-done : goal.invariant-loop-done
invariant-loop-done l = record {
  done : Done l.gates l.runs.items l.done;
  few : length l.runs.items ≤ l.most;
  some : length l.runs.items ≤ l.done;
}

abbrev pub decreases-loop-done : goal.decreases-loop-done
decreases-loop-done l = length l.gates - l.done
