use Rattle.std.proofs.Common.{◌≡◌, ◌^◌, ◌≤◌, ◌<◌, length, arith}
use Rattle.mle_table.proofs.api.EqualitySteps.{pow_up}
use Rattle.batch_core.proofs.WeightedSums.{outputs_weighed}
use Rattle.batch_core.proofs.value_weights.fill_output_weights.Goals as goal

pub value-requires : goal.value-requires
value-requires c =
    let most : 2 ^ length c.args.point.now ≤ 1048576 = pow_up (length c.args.point.now) 20 c.requires.few in
    omega (arith, most, c.loop-i-test.true, c.loop-i.auto.weights, c.requires.fits)

pub returns : goal.returns
returns c outputs s =
    let size : length outputs ≡ length c.loop-i.weights = omega (arith, s, c.loop-i.auto.weights) in
    let few : length c.loop-i.weights < 2 ^ length c.args.point.now = omega (arith, c.loop-i.auto.weights, c.requires.fits) in
    outputs_weighed (2 ^ length c.args.point.now) c.loop-i.weights outputs c.args.point.now size few (λ i u. c.loop-i.invariant i (omega (arith, u, c.loop-i-test.false, c.loop-i.auto.weights)))
