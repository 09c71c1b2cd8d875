-- Each fold binds one coordinate more
use Rattle.std.proofs.Common.{arith, length, vec_len, ◌<◌}
use Rattle.field_ext.specs.Field.{k_ops}
use Rattle.field_ext.proofs.api.KLaws.{k_laws}
use Rattle.mle_table.proofs.api.Steps.{bound_more, bound_all, even_power, next_power, last_power}
use Rattle.mle_table.proofs.values.eval_values.Goals as goal

pub fold_values-requires : goal.fold_values-requires
fold_values-requires c = even_power (length c.args.point.now) c.loop-r.r-index (vec_len c.loop-r.values) c.loop-r-test.true c.loop-r.invariant.size

pub loop-r-preserved : goal.loop-r-preserved
loop-r-preserved c = record {
  size = next_power (length c.args.point.now) c.loop-r.r-index (vec_len c.loop-r.values) (vec_len c.fold_values.new.values) c.loop-r-test.true c.loop-r.invariant.size c.fold_values.ensures.size;
  same = bound_more k_ops k_laws c.loop-r.values.items c.fold_values.new.values.items c.args.point.now c.loop-r.r-index c.r-item.result _ c.loop-r-test.true c.r-item.is c.fold_values.ensures.folded c.loop-r.invariant.same;
}

pub returns : goal.returns
returns c =
    bound_all k_ops k_laws c.loop-r.values.items c.args.point.now c.loop-r.r-index c.index.result.now _ c.loop-r-test.false
    (let v : 0 < vec_len c.loop-r.values = last_power (length c.args.point.now) c.loop-r.r-index (vec_len c.loop-r.values) c.loop-r-test.false c.loop-r.invariant.size in omega (arith, c.loop-r.values.ok, v))
    c.index.ensures c.loop-r.invariant.same
