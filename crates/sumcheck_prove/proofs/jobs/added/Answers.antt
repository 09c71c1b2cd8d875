-- One sum more
use Rattle.std.proofs.Common.{List, [], map, length, get_or, ◌∙◌, ap, sym}
use Rattle.std.proofs.lemmas.List.{get_or-map}
use Rattle.field_ext.specs.Field.{K, k_ops}
use Rattle.field_ext.specs.Polynomial.{value_at}
use Rattle.sumcheck_prove.specs.declared.jobs.Job.{Job}
use Rattle.sumcheck_prove.proofs.Summing.{one_more}
use Rattle.sumcheck_prove.proofs.jobs.added.Goals as goal

pub plus-total-requires-clause-message : goal.plus-total-requires-clause-message
plus-total-requires-clause-message c =
    ap length (sym (get_or-map (λ (job : Job). job.sum) c.args.jobs.now c.loop-k.k c.index-jobs-k.result [] c.loop-k-test.true)) ∙ c.requires c.loop-k.k c.loop-k-test.true

pub loop-k-preserved : goal.loop-k-preserved
loop-k-preserved c = record {
  three = c.plus-total.ensures.three;
  value = λ e.
      one_more (λ k. value_at k_ops (get_or (map (λ (job : Job). job.sum) c.args.jobs.now) k []) e) c.loop-k.k _ _ _ (c.plus-total.ensures.value e) (c.loop-k.invariant.value e)
      (ap (λ (m : List K). value_at k_ops m e) (sym (get_or-map (λ (job : Job). job.sum) c.args.jobs.now c.loop-k.k c.index-jobs-k.result [] c.loop-k-test.true)));
}
