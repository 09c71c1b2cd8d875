-- One job more
use Rattle.std.proofs.Common.{◌≡◌, length, ◌∙◌, arith, ap, sym, length-set}
use Rattle.sumcheck_prove.specs.Jobs.{aimed}
use Rattle.sumcheck_prove.proofs.Loading.{more_placed, all_placed, rest_kept}
use Rattle.sumcheck_prove.proofs.lines.aim_all.Goals as goal

pub loop-k-preserved : goal.loop-k-preserved
loop-k-preserved c =
    let f = aimed c.args.b.now c.args.c.now in
    let k = c.loop-k.k in
    let job = c.index-jobs-k.result in
    let before = c.loop-k.invariant in
    record {
      len = length-set c.loop-k.jobs c.loop-k.k c.aim_job.new.job ∙ before.len;
      rest = rest_kept c.args.jobs.now c.loop-k.jobs k c.aim_job.new.job before.rest;
      jobs = more_placed f c.args.jobs.now c.args.jobs.now c.loop-k.jobs k job c.aim_job.new.job c.loop-k-test.true c.loop-k-test.true
          (c.index-jobs-k.is ∙ before.rest k job (omega arith)) (c.aim_job.ensures ∙ ap f (sym c.index-jobs-k.is)) before.jobs;
    }

pub returns : goal.returns
returns c =
    let all : length c.args.jobs.now ≡ c.loop-k.k = omega arith in
    all_placed (aimed c.args.b.now c.args.c.now) c.args.jobs.now c.args.jobs.now c.loop-k.jobs c.loop-k.k all all c.loop-k.invariant.jobs
