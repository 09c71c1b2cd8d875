-- One part more
use Rattle.std.proofs.Common.{◌≡◌, length, ◌∙◌, arith, ap, sym, length-set}
use Rattle.table_parts.specs.PartTables.{PartTables}
use Rattle.sumcheck_prove.specs.declared.jobs.Job.{Job}
use Rattle.sumcheck_prove.proofs.Loading.{more_placed, all_placed, rest_kept}
use Rattle.sumcheck_prove.proofs.jobs.unload.Goals as goal

pub loop-k-preserved : goal.loop-k-preserved
loop-k-preserved c =
    let f : Job → PartTables = λ job. job.part in
    let k = c.loop-k.k in
    let job = c.index-jobs-k.result in
    let before = c.loop-k.invariant in
    record {
      len = length-set c.loop-k.jobs c.loop-k.k c.give_back.new.job ∙ before.len;
      rest = rest_kept c.args.jobs.now c.loop-k.jobs k c.give_back.new.job before.rest;
      parts = more_placed f c.args.jobs.now c.args.parts.now c.loop-k.parts k job c.give_back.new.part c.loop-k-test.true (omega (arith, c.loop-k-test.true, c.requires))
          (c.index-jobs-k.is ∙ before.rest k job (omega arith)) (c.give_back.ensures ∙ ap f (sym c.index-jobs-k.is)) before.parts;
    }

pub returns-clause-parts : goal.returns-clause-parts
returns-clause-parts c =
    let all : length c.args.jobs.now ≡ c.loop-k.k = omega arith in
    all_placed (λ (job : Job). job.part) c.args.jobs.now c.args.parts.now c.loop-k.parts c.loop-k.k all (c.requires.same ∙ all) c.loop-k.invariant.parts
