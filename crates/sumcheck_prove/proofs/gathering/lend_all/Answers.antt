-- One job more has its range
use Rattle.std.proofs.Common.{◌≡◌, ◌+◌, ◌∙◌, false, arith, ap, refl, subst, length-set}
use Rattle.round_tables.specs.Ranges.{RangeView, LendingView, range_of}
use Rattle.sumcheck_prove.specs.Jobs.{HasRange}
use Rattle.sumcheck_prove.proofs.RangeJobs.{one_more_range}
use Rattle.sumcheck_prove.proofs.gathering.lend_all.Goals as goal

pub loop-k-init : goal.loop-k-init
loop-k-init c = record {
  len = refl;
  lending = λ i. record c.args.lending.now { lent = c.requires.none i };
  ranges = λ k job u. absurd (omega (arith, u));
}

pub lend-requires : goal.lend-requires
lend-requires c =
    let at = c.loop-k.invariant.lending in
    omega (arith, ap (λ (v : LendingView). v.lent) at, ap (λ (v : LendingView). v.number) at, c.count-k-end.ensures, c.loop-k-test.true)

pub loop-k-preserved : goal.loop-k-preserved
loop-k-preserved c =
    let before = c.loop-k.invariant in
    let k = c.loop-k.k in
    let fn = c.args.lending.now in
    let at = before.lending in
    let range = c.lend.ensures.share ∙ (λ i. range_of (at i).sum (at i).parts (at i).size false (at i).lent) in
    record {
      len = length-set c.loop-k.jobs c.loop-k.k c.take_share.new.job ∙ before.len;
      lending = c.lend.ensures.lent ∙ (λ i. record (at i) { lent = (at i).lent + 1 });
      ranges = one_more_range fn.sum fn.parts fn.size false c.loop-k.jobs k _ c.take_share.new.job (omega (arith, c.loop-k-test.true, before.len, c.count-k-end.ensures, c.requires.number)) refl
          (subst (λ (r : RangeView). HasRange r c.take_share.new.job) range c.take_share.ensures) before.ranges;
    }

pub returns-clause-lent : goal.returns-clause-lent
returns-clause-lent c =
    let all : c.loop-k.k ≡ c.args.lending.now.number = omega (arith, c.count-k-end.ensures) in
    c.loop-k.invariant.lending ∙ (λ i. record c.args.lending.now { lent = all i })

pub returns-clause-ranges : goal.returns-clause-ranges
returns-clause-ranges c k job u = c.loop-k.invariant.ranges k job (omega (arith, u, c.count-k-end.ensures))
