-- The jobs passed have their ranges
use Rattle.std.proofs.Common.{◌≡◌, false, length}
use Rattle.sumcheck_prove.specs.Jobs.{HaveRanges}
use Rattle.sumcheck_prove.proofs.gathering.lend_all.Given as goal

abbrev pub invariant-loop-k : goal.invariant-loop-k
invariant-loop-k l = record {
  len : length l.jobs ≡ length l.fn.jobs;
  lending : l.lending ≡ record l.fn.lending { lent = l.k };
  ranges : HaveRanges l.fn.lending.sum l.fn.lending.parts l.fn.lending.size false l.k l.jobs;
}
