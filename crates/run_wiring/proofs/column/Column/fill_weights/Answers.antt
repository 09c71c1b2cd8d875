-- One more weight is filled in
use Rattle.std.proofs.Common.{◌<◌, length, arith}
use Rattle.run_wiring.specs.Weights.{weight_at}
use Rattle.run_wiring.proofs.Weights.{filled_more, are_weights}
use Rattle.run_wiring.proofs.column.Column.fill_weights.Goals as goal

pub loop-place-preserved : goal.loop-place-preserved
loop-place-preserved c =
    let inside : c.loop-place.place < length c.loop-place.weights = omega (arith, c.loop-place.auto.weights, c.requires, c.loop-place-test.true) in
    filled_more c.loop-place.weights (weight_at c.args.self.now) c.loop-place.place c.weight_at.result inside c.weight_at.ensures c.loop-place.invariant

pub returns : goal.returns
returns c = are_weights c.args.self.now c.loop-place.weights (λ i u. c.loop-place.invariant i (omega (arith, u, c.loop-place-test.false)))
