-- The table doubles within its buffer
use Rattle.std.proofs.Common.{◌≤◌, ◌*◌, length, arith}
use Rattle.std.proofs.lemmas.List.{length-set}
use Rattle.mle_table.proofs.api.EqualitySteps.{doubling_fits}
use Rattle.mle_table.proofs.equality.fill_equality.Goals as goal

pub extend_equality-requires : goal.extend_equality-requires
extend_equality-requires c =
    doubling_fits c.loop-u.u-index (length c.args.point.now) (length c.loop-u.table) c.loop-u.size c.loop-u-test.true c.loop-u.invariant.doubled
    (omega (arith, length-set c.args.table.now 0 c.one.result))

pub overflow_mul-size : goal.overflow_mul-size
overflow_mul-size c =
    let h : 2 * c.loop-u.size ≤ length c.loop-u.table = doubling_fits c.loop-u.u-index (length c.args.point.now) (length c.loop-u.table) c.loop-u.size c.loop-u-test.true c.loop-u.invariant.doubled
    (omega (arith, length-set c.args.table.now 0 c.one.result)) in
    let buffer = c.well_formed.0.0 in
    let same = c.loop-u.auto.table in
    omega (arith, length-set c.args.table.now 0 c.one.result)
