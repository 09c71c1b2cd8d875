-- One pair more
use Rattle.std.proofs.Common.{arith}
use Rattle.field_ext.specs.Field.{k_ops}
use Rattle.field_ext.proofs.api.KLaws.{k_laws}
use Rattle.gate_gather.specs.LazySum.{element_of}
use Rattle.table_parts.specs.Tables.{pair_at}
use Rattle.table_parts.proofs.api.LoopSteps.{pairs_none, pairs_more}
use Rattle.table_parts.proofs.LazySums.{nothing_yet, one_more, none_is_zero}
use Rattle.table_parts.proofs.pairs.pair_sum.Goals as goal

pub loop-j-init : goal.loop-j-init
loop-j-init g c = record {
  sum = λ e.
      pairs_none k_ops k_laws _ _ _ e
      (none_is_zero c.zero-at_zero.result c.zero-at_zero.ensures.re c.zero-at_zero.ensures.im)
      (none_is_zero c.zero-at_one.result c.zero-at_one.ensures.re c.zero-at_one.ensures.im)
      (none_is_zero c.zero-square.result c.zero-square.ensures.re c.zero-square.ensures.im);
  at_zero = nothing_yet _ c.zero-at_zero.result c.zero-at_zero.ensures.re c.zero-at_zero.ensures.im;
  at_one = nothing_yet _ c.zero-at_one.result c.zero-at_one.ensures.re c.zero-at_one.ensures.im;
  square = nothing_yet _ c.zero-square.result c.zero-square.ensures.re c.zero-square.ensures.im;
  steps = omega arith;
}

pub loop-j-preserved : goal.loop-j-preserved
loop-j-preserved g c = let samples = c.pair-samples.ensures in
    record {
      sum = λ e.
          pairs_more k_ops k_laws c.loop-j.j (pair_at k_ops c.args.table.now (g.S.Reading.items c.args.scales.now) (g.T.Reading.items c.args.shifts.now) e)
          (element_of c.loop-j.at_zero) (element_of c.loop-j.at_one) (element_of c.loop-j.square)
          (element_of c.pair-samples.result.at_zero) (element_of c.pair-samples.result.at_one) (element_of c.pair-samples.result.square)
          (element_of c.add-at_zero.result) (element_of c.add-at_one.result) (element_of c.add-square.result) e
          c.add-at_zero.ensures.element c.add-at_one.ensures.element c.add-square.ensures.element (samples.value e) (c.loop-j.invariant.sum e);
      at_zero = one_more c.loop-j.j c.loop-j.at_zero c.pair-samples.result.at_zero c.add-at_zero.result c.loop-j.invariant.at_zero samples.at_zero c.add-at_zero.ensures.re c.add-at_zero.ensures.im;
      at_one = one_more c.loop-j.j c.loop-j.at_one c.pair-samples.result.at_one c.add-at_one.result c.loop-j.invariant.at_one samples.at_one c.add-at_one.ensures.re c.add-at_one.ensures.im;
      square = one_more c.loop-j.j c.loop-j.square c.pair-samples.result.square c.add-square.result c.loop-j.invariant.square samples.square c.add-square.ensures.re c.add-square.ensures.im;
      steps = omega arith;
    }
