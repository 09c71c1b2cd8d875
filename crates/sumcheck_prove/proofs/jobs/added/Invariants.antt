-- The sums of the jobs passed
use Rattle.std.proofs.Common.{◌≡◌, [], map, length, get_or}
use Rattle.field_ext.specs.Field.{K, k_ops}
use Rattle.field_ext.specs.Polynomial.{value_at}
use Rattle.field_ext.specs.Sums.{sum_below}
use Rattle.sumcheck_prove.specs.declared.jobs.Job.{Job}
use Rattle.sumcheck_prove.proofs.jobs.added.Given as goal

abbrev pub invariant-loop-k : goal.invariant-loop-k
invariant-loop-k l = record {
  three : length l.total ≡ 3;
  value : (e : K) → value_at k_ops l.total e ≡ sum_below k_ops l.k (λ k. value_at k_ops (get_or (map (λ (job : Job). job.sum) l.jobs) k []) e);
}
