-- Block after block, the factors of the gates that are sent into the range are sent to their right operands
use Rattle.std.proofs.Common.{◌≡◌, ◌≤◌, ◌<◌, ◌+◌, ◌*◌, ℕ, min, length, get_or, arith}
use Rattle.field_ext.specs.Field.{K, k_ops}
use Rattle.field_ext.specs.Multilinear.{eq_poly}
use Rattle.field_ext.proofs.api.KLaws.{k_laws}
use Rattle.circuit_core.specs.Parts.{zero_gate}
use Rattle.gate_gather.specs.Gathering.{right_of, add_factor, mul_factor}
use Rattle.gate_gather.proofs.Sent.{begun, all_sent}
use Rattle.gate_gather.proofs.Blocks.{chosen_sent, block_sent}
use Rattle.gate_gather.proofs.gathering.gather_factors.Goals as goal

pub send_right-requires-clause-in_range : goal.send_right-requires-clause-in_range
send_right-requires-clause-in_range g c =
    let inside : get_or c.choose-count.new.chosen c.loop-k.k 0 < length c.args.gates.now = omega (arith, c.choose-count.ensures.chosen.before c.loop-k.k c.loop-k-test.true, c.min-end.ensures) in
    (c.requires.in_range (get_or c.choose-count.new.chosen c.loop-k.k 0) zero_gate inside).left

pub loop-block-init : goal.loop-block-init
loop-block-init g c = record {
  room = omega arith;
  adds = begun k_ops k_laws c.args.gates.now right_of _ c.args.from c.clear.new.table (min (128 * 0) (length c.args.gates.now)) (omega arith) c.clear.ensures;
  muls = begun k_ops k_laws c.args.gates.now right_of _ c.args.from c.clear-2.new.table (min (128 * 0) (length c.args.gates.now)) (omega arith) c.clear-2.ensures;
}

pub loop-k-preserved : goal.loop-k-preserved
loop-k-preserved g c =
    let weight : ℕ → K = g.W.Weights.weight c.args.weights.now in
    let left : ℕ → K = eq_poly k_ops c.args.left.now in
    let start = c.loop-block.block * 128 in
    let within : c.min-end.result ≤ length c.args.gates.now = omega (arith, c.min-end.ensures) in
    let both : length c.loop-k.muls ≡ length c.loop-k.adds = omega arith in
    record {
      adds = chosen_sent k_ops k_laws c.args.gates.now right_of (add_factor k_ops weight left) c.args.from start c.min-end.result c.choose-count.new.chosen c.choose-count.result (length c.loop-block.adds)
          c.choose-count.ensures.chosen within c.loop-k.adds c.send_right.new.adds c.loop-k.k (omega arith) (omega arith) c.loop-k-test.true (λ x u. c.send_right.ensures.adds x u) c.loop-k.invariant.adds;
      muls = chosen_sent k_ops k_laws c.args.gates.now right_of (mul_factor k_ops weight left) c.args.from start c.min-end.result c.choose-count.new.chosen c.choose-count.result (length c.loop-block.adds)
          c.choose-count.ensures.chosen within c.loop-k.muls c.send_right.new.muls c.loop-k.k (omega arith) (omega arith) c.loop-k-test.true (λ x u. c.send_right.ensures.muls x (omega (arith, u, both))) c.loop-k.invariant.muls;
    }

pub loop-block-preserved : goal.loop-block-preserved
loop-block-preserved g c =
    let weight : ℕ → K = g.W.Weights.weight c.args.weights.now in
    let left : ℕ → K = eq_poly k_ops c.args.left.now in
    let start = c.loop-block.block * 128 in
    let within : c.min-end.result ≤ length c.args.gates.now = omega (arith, c.min-end.ensures) in
    let all : c.loop-k.k ≡ c.choose-count.result = omega arith in
    let ordered : c.loop-block.block * 128 ≤ c.min-end.result = omega (arith, c.min-end.ensures) in
    let next : min (128 * (c.loop-block.block + 1)) (length c.args.gates.now) ≡ c.min-end.result = omega (arith, c.min-end.ensures) in
    record {
      room = omega (arith, c.choose-count.ensures.room);
      adds = block_sent k_ops k_laws c.args.gates.now right_of (add_factor k_ops weight left) c.args.from start c.min-end.result c.choose-count.new.chosen c.choose-count.result (length c.loop-block.adds)
          c.choose-count.ensures.chosen within c.loop-k.adds c.loop-k.k (min (128 * (c.loop-block.block + 1)) (length c.args.gates.now)) (omega arith) ordered all next c.loop-k.invariant.adds;
      muls = block_sent k_ops k_laws c.args.gates.now right_of (mul_factor k_ops weight left) c.args.from start c.min-end.result c.choose-count.new.chosen c.choose-count.result (length c.loop-block.adds)
          c.choose-count.ensures.chosen within c.loop-k.muls c.loop-k.k (min (128 * (c.loop-block.block + 1)) (length c.args.gates.now)) (omega arith) ordered all next c.loop-k.invariant.muls;
    }

pub returns-clause-gathers : goal.returns-clause-gathers
returns-clause-gathers g c =
    let all : length c.args.gates.now ≤ min (128 * c.loop-block.block) (length c.args.gates.now) = omega arith in
    record {
      added = all_sent k_ops k_laws c.args.gates.now right_of _ c.args.from c.loop-block.adds _ all c.loop-block.invariant.adds;
      multiplied = all_sent k_ops k_laws c.args.gates.now right_of _ c.args.from c.loop-block.muls _ all c.loop-block.invariant.muls;
    }
