use Rattle.std.proofs.Common.{◌≡◌, ◌++◌, length, vec_len}
use Rattle.std.specs.Vec.Iter.{into_iter_items, into_iter_len}
use Rattle.prove_serve.specs.Reported.{AreReported}
use Rattle.prove_serve.proofs.service.report_all.Given as goal

abbrev pub invariant-loop-job : goal.invariant-loop-job
invariant-loop-job g l = record {
  all : l.yielded ++ into_iter_items l.job-iterator ≡ into_iter_items l.initial.job-iterator;
  left : into_iter_len l.job-iterator ≡ length (into_iter_items l.job-iterator);
  long : vec_len l.outcomes ≡ vec_len l.fn.outcomes;
  reported : AreReported l.yielded l.outcomes.items;
}
