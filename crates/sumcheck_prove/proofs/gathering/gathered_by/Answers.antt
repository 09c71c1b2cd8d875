-- The jobs come back with their ranges gathered
use Rattle.std.proofs.Common.{◌≡◌, ◌<◌, ◌≤◌, ◌++◌, List, false, true, length, take, drop, get_or, arith, sym, ◌∙◌, ap, subst, rules}
use Rattle.wiring_poly.proofs.api.Identity.{written_back}
use Rattle.round_tables.specs.Ranges.{LendingView, CollectingView, range_of}
use Rattle.sumcheck_prove.specs.declared.jobs.Job.{Job}
use Rattle.sumcheck_prove.specs.Jobs.{HasRange, HaveRanges}
use Rattle.sumcheck_prove.proofs.RangeJobs.{ranges_worked}
use Rattle.sumcheck_prove.proofs.gathering.gathered_by.Goals as goal

pub collect_all-requires-clause-ranges : goal.collect_all-requires-clause-ranges
collect_all-requires-clause-ranges g c k job u =
    let lending = c.args.lending in
    let jobs = c.args.jobs in
    let new = c.lend_all.new.jobs in
    let number : length c.deref_mut.result.now ≡ c.args.jobs.len = c.deref_mut.ensures.len in
    let back : take c.args.jobs.len (c.lend_all.new.jobs ++ drop (length c.lend_all.new.jobs) c.args.jobs.items) ≡ c.lend_all.new.jobs = written_back jobs.items new jobs.len (c.lend_all.auto.jobs ∙ number) in
    let given : List Job = take c.args.jobs.len (c.lend_all.new.jobs ++ drop (length c.lend_all.new.jobs) c.args.jobs.items) in
    let size : length (take c.args.jobs.len (c.lend_all.new.jobs ++ drop (length c.lend_all.new.jobs) c.args.jobs.items)) ≡ length c.deref_mut.result.now = ap length back ∙ c.lend_all.ensures.jobs in
    let sum : c.collect-collecting.result.sum ≡ c.args.lending.sum = ap (λ (v : CollectingView). v.sum) c.collect-collecting.ensures ∙ ap (λ (v : LendingView). v.sum) c.lend_all.ensures.lent in
    let parts : c.collect-collecting.result.parts ≡ c.args.lending.parts = ap (λ (v : CollectingView). v.parts) c.collect-collecting.ensures ∙ ap (λ (v : LendingView). v.parts) c.lend_all.ensures.lent in
    let values : c.collect-collecting.result.size ≡ c.args.lending.size = ap (λ (v : CollectingView). v.size) c.collect-collecting.ensures ∙ ap (λ (v : LendingView). v.size) c.lend_all.ensures.lent in
    let ranges : HaveRanges c.args.lending.sum c.args.lending.parts c.args.lending.size false c.args.lending.number given =
    subst (HaveRanges lending.sum lending.parts lending.size false lending.number) (sym back) c.lend_all.ensures.ranges in
    let count : c.collect-collecting.result.number ≡ c.args.lending.number = ap (λ (v : CollectingView). v.number) c.collect-collecting.ensures ∙ ap (λ (v : LendingView). v.number) c.lend_all.ensures.lent in
    let within : k < c.args.lending.number = omega (arith, u, count) in
    let few : c.args.lending.number ≤ length given = omega (arith, size, number, c.requires.number) in
    coe 0 1 (i. HasRange (range_of (sym sum i) (sym parts i) (sym values i) true k) (get_or (sym c.deref_mut-2.ensures.value i) k job))
    (ranges_worked lending.sum lending.parts lending.size given c.work-jobs.result.items lending.number few c.work-jobs.ensures.each ranges k job within)

pub lend_all-requires-clause-none : goal.lend_all-requires-clause-none
lend_all-requires-clause-none g c = search rules

pub lend_all-requires-clause-number : goal.lend_all-requires-clause-number
lend_all-requires-clause-number g c = search rules

pub work-jobs-requires : goal.work-jobs-requires
work-jobs-requires g c = search rules

pub collect-collecting-requires : goal.collect-collecting-requires
collect-collecting-requires g c = search rules

pub collect_all-requires-clause-none : goal.collect_all-requires-clause-none
collect_all-requires-clause-none g c = search rules

pub collect_all-requires-clause-number : goal.collect_all-requires-clause-number
collect_all-requires-clause-number g c = search rules

pub gathered-tables-requires : goal.gathered-tables-requires
gathered-tables-requires g c = search rules

pub invariant_of-gather : goal.invariant_of-gather
invariant_of-gather g c = search rules

pub returns-clause-tables : goal.returns-clause-tables
returns-clause-tables g c = search rules

pub returns-clause-gather : goal.returns-clause-gather
returns-clause-gather g c = search rules
