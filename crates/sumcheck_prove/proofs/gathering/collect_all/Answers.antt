-- One range more is back
use Rattle.std.proofs.Common.{◌≡◌, ◌+◌, ◌∙◌, true, Some, arith, ap, refl, sym, get_or, length-set}
use Rattle.round_tables.specs.Ranges.{CollectingView, range_of}
use Rattle.sumcheck_prove.specs.declared.jobs.Job.{Job}
use Rattle.sumcheck_prove.proofs.RangeJobs.{same_range}
use Rattle.sumcheck_prove.proofs.Loading.{rest_kept}
use Rattle.sumcheck_prove.proofs.gathering.collect_all.Goals as goal

pub loop-k-init : goal.loop-k-init
loop-k-init c = record {
  len = refl;
  collecting = λ i. record c.args.collecting.now { back = c.requires.none i };
  rest = λ j job u. refl;
}

pub unreachable-requires : goal.unreachable-requires
unreachable-requires c =
    let fn = c.args.collecting.now in
    let k = c.loop-k.k in
    let job = c.index-jobs-k.result in
    let here : (get_or c.args.jobs.now c.loop-k.k c.index-jobs-k.result).share ≡ Some (range_of c.args.collecting.now.sum c.args.collecting.now.parts c.args.collecting.now.size true c.loop-k.k) = (c.requires.ranges k job (omega (arith, c.loop-k-test.true, c.count-k-end.ensures))).share in
    let is = c.loop-k.invariant.rest k job (omega arith) in
    let none = sym c.in_default.is ∙ c.give_share.ensures ∙ ap (λ (j : Job). j.share) is ∙ here in
    absurd (cc)

pub take_back-requires-clause-left : goal.take_back-requires-clause-left
take_back-requires-clause-left c =
    let at = c.loop-k.invariant.collecting in
    omega (arith, ap (λ (v : CollectingView). v.back) at, ap (λ (v : CollectingView). v.number) at, c.count-k-end.ensures, c.loop-k-test.true)

pub take_back-requires-clause-share : goal.take_back-requires-clause-share
take_back-requires-clause-share c =
    let k = c.loop-k.k in
    let job = c.index-jobs-k.result in
    let at = c.loop-k.invariant.collecting in
    let is = c.loop-k.invariant.rest k job (omega arith) in
    same_range _ _ (sym c.in-Some.is ∙ c.give_share.ensures ∙ ap (λ (j : Job). j.share) is ∙ (c.requires.ranges k job (omega (arith, c.loop-k-test.true, c.count-k-end.ensures))).share)
    ∙ (λ i. range_of (sym at i).sum (sym at i).parts (sym at i).size true (sym at i).back)

pub loop-k-preserved : goal.loop-k-preserved
loop-k-preserved c =
    let before = c.loop-k.invariant in
    let at = before.collecting in
    record {
      len = length-set c.loop-k.jobs c.loop-k.k c.give_share.new.job ∙ before.len;
      collecting = c.take_back.ensures ∙ (λ i. record (at i) { back = (at i).back + 1 });
      rest = rest_kept c.args.jobs.now c.loop-k.jobs c.loop-k.k c.give_share.new.job before.rest;
    }

pub returns-clause-back : goal.returns-clause-back
returns-clause-back c =
    let all : c.loop-k.k ≡ c.args.collecting.now.number = omega (arith, c.count-k-end.ensures) in
    c.loop-k.invariant.collecting ∙ (λ i. record c.args.collecting.now { back = all i })
