use Rattle.std.proofs.Common.{◌≡◌, ◌≤◌, ◌++◌, length, map, vec_capacity}
use Rattle.std.specs.Vec.Iter.{into_iter_items, into_iter_len}
use Rattle.script_prove.specs.Served.{marked_job}
use Rattle.script_prove.proofs.history.marked.Given as goal

abbrev pub invariant-loop-job : goal.invariant-loop-job
invariant-loop-job l = record {
  all : l.yielded ++ into_iter_items l.job-iterator ≡ into_iter_items l.initial.job-iterator;
  left : into_iter_len l.job-iterator ≡ length (into_iter_items l.job-iterator);
  many : length l.jobs.items ≡ length l.yielded;
  capacity : length (into_iter_items l.initial.job-iterator) ≤ vec_capacity l.jobs;
  done : l.jobs.items ≡ map marked_job l.yielded;
}
