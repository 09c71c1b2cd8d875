-- Each job is done at its place
use Rattle.std.proofs.Common.{◌≡◌, ◌++◌, List, length, map, take, drop, slice_get, Some, refl, sym, ◌∙◌, ap, subst}
use Rattle.wiring_poly.proofs.api.Identity.{written_back}
use Rattle.sumcheck_prove.specs.declared.jobs.Job.{Job}
use Rattle.sumcheck_prove.specs.Jobs.{job_of, round_of, work_of}
use Rattle.sumcheck_prove.proofs.FoldedParts.{all-worked, mapped-get}
use Rattle.sumcheck_prove.proofs.Handed.{both_mapped}
use Rattle.sumcheck_prove.proofs.jobs.worked.Goals as goal

pub returns-clause-jobs : goal.returns-clause-jobs
returns-clause-jobs g c =
    let jobs = c.args.jobs in
    let new = c.load.new.jobs in
    let parts = c.args.parts.now.items in
    let f = job_of c.args.r c.args.none in
    let size : length c.load.new.jobs ≡ c.args.jobs.len = c.load.auto.jobs ∙ c.deref_mut-2.ensures.len in
    let back : take c.args.jobs.len (c.load.new.jobs ++ drop (length c.load.new.jobs) c.args.jobs.items) ≡ c.load.new.jobs = written_back jobs.items new jobs.len size in
    let handed : take c.args.jobs.len (c.load.new.jobs ++ drop (length c.load.new.jobs) c.args.jobs.items) ≡ map (job_of c.args.r c.args.none) c.args.parts.now.items =
    back ∙ c.load.ensures.jobs ∙ ap (map f) c.deref_mut.ensures.value in
    all-worked round_of work_of (take c.args.jobs.len (c.load.new.jobs ++ drop (length c.load.new.jobs) c.args.jobs.items)) c.work.result.items
    (λ k x h. mapped-get (λ job. work_of k job ≡ round_of job) f (λ part. refl) parts k x (subst (λ (l : List Job). slice_get l k ≡ Some x) handed h))
    (sym c.work.result.ok.0 ∙ c.work.ensures.len ∙ sym (ap length back ∙ size)) c.work.ensures.each
    ∙ ap (map round_of) handed
    ∙ both_mapped round_of f parts
