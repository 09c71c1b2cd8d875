-- One part more
use Rattle.std.proofs.Common.{◌≡◌, length, ◌∙◌, arith, ap, sym, length-set}
use Rattle.sumcheck_prove.specs.Jobs.{job_of}
use Rattle.sumcheck_prove.proofs.Loading.{more_placed, all_placed, rest_kept}
use Rattle.sumcheck_prove.proofs.jobs.load.Goals as goal

pub loop-k-preserved : goal.loop-k-preserved
loop-k-preserved c =
    let f = job_of c.args.r c.args.none in
    let k = c.loop-k.k in
    let part = c.index-parts-k.result in
    let before = c.loop-k.invariant in
    record {
      len = length-set c.loop-k.parts c.loop-k.k c.take_in.new.part ∙ before.len;
      rest = rest_kept c.args.parts.now c.loop-k.parts k c.take_in.new.part before.rest;
      jobs = more_placed f c.args.parts.now c.args.jobs.now c.loop-k.jobs k part c.take_in.new.job c.loop-k-test.true (omega (arith, c.loop-k-test.true, c.requires.same))
          (c.index-parts-k.is ∙ before.rest k part (omega arith)) (c.take_in.ensures.job ∙ ap f (sym c.index-parts-k.is)) before.jobs;
    }

pub returns-clause-jobs : goal.returns-clause-jobs
returns-clause-jobs c =
    let all : length c.args.parts.now ≡ c.loop-k.k = omega arith in
    all_placed (job_of c.args.r c.args.none) c.args.parts.now c.args.jobs.now c.loop-k.jobs c.loop-k.k all (c.requires.same ∙ all) c.loop-k.invariant.jobs
