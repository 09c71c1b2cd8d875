-- Block after block, the gates that are sent into the range are sent to their left operands
use Rattle.std.proofs.Common.{◌≡◌, ◌≤◌, ◌<◌, ◌+◌, ◌*◌, ℕ, min, length, map, get_or, arith}
use Rattle.field_ext.specs.Field.{K, k_ops, embed_k}
use Rattle.field_ext.proofs.api.KLaws.{k_laws}
use Rattle.circuit_core.specs.Parts.{zero_gate}
use Rattle.gate_gather.specs.Gathering.{left_of, left_scale, left_shift}
use Rattle.gate_gather.proofs.Sent.{begun, all_sent}
use Rattle.gate_gather.proofs.Blocks.{chosen_sent, block_sent}
use Rattle.gate_gather.proofs.gathering.gather_left.Goals as goal

pub send_left-requires-clause-in_range : goal.send_left-requires-clause-in_range
send_left-requires-clause-in_range g c =
    let inside : get_or c.choose-count.new.chosen c.loop-k.k 0 < length c.args.gates.now = omega (arith, c.choose-count.ensures.chosen.before c.loop-k.k c.loop-k-test.true, c.min-end.ensures) in
    (c.requires.in_range (get_or c.choose-count.new.chosen c.loop-k.k 0) zero_gate inside).right

pub loop-block-init : goal.loop-block-init
loop-block-init g c = record {
  room = omega arith;
  scales = begun k_ops k_laws c.args.gates.now left_of _ c.args.from c.clear.new.table (min (128 * 0) (length c.args.gates.now)) (omega arith) c.clear.ensures;
  shifts = begun k_ops k_laws c.args.gates.now left_of _ c.args.from c.clear-2.new.table (min (128 * 0) (length c.args.gates.now)) (omega arith) c.clear-2.ensures;
}

pub loop-k-preserved : goal.loop-k-preserved
loop-k-preserved g c =
    let values = map embed_k c.args.values.now in
    let weight : ℕ → K = g.W.Weights.weight c.args.weights.now in
    let start = c.loop-block.block * 128 in
    let within : c.min-end.result ≤ length c.args.gates.now = omega (arith, c.min-end.ensures) in
    let both : length c.loop-k.shifts ≡ length c.loop-k.scales = omega arith in
    record {
      scales = chosen_sent k_ops k_laws c.args.gates.now left_of (left_scale k_ops weight values) c.args.from start c.min-end.result c.choose-count.new.chosen c.choose-count.result (length c.loop-block.scales)
          c.choose-count.ensures.chosen within c.loop-k.scales c.send_left.new.scales c.loop-k.k (omega arith) (omega arith) c.loop-k-test.true (λ x u. c.send_left.ensures.scales x u) c.loop-k.invariant.scales;
      shifts = chosen_sent k_ops k_laws c.args.gates.now left_of (left_shift k_ops weight values) c.args.from start c.min-end.result c.choose-count.new.chosen c.choose-count.result (length c.loop-block.scales)
          c.choose-count.ensures.chosen within c.loop-k.shifts c.send_left.new.shifts c.loop-k.k (omega arith) (omega arith) c.loop-k-test.true (λ x u. c.send_left.ensures.shifts x (omega (arith, u, both))) c.loop-k.invariant.shifts;
    }

pub loop-block-preserved : goal.loop-block-preserved
loop-block-preserved g c =
    let values = map embed_k c.args.values.now in
    let weight : ℕ → K = g.W.Weights.weight c.args.weights.now in
    let start = c.loop-block.block * 128 in
    let within : c.min-end.result ≤ length c.args.gates.now = omega (arith, c.min-end.ensures) in
    let all : c.loop-k.k ≡ c.choose-count.result = omega arith in
    let ordered : c.loop-block.block * 128 ≤ c.min-end.result = omega (arith, c.min-end.ensures) in
    let next : min (128 * (c.loop-block.block + 1)) (length c.args.gates.now) ≡ c.min-end.result = omega (arith, c.min-end.ensures) in
    record {
      room = omega (arith, c.choose-count.ensures.room);
      scales = block_sent k_ops k_laws c.args.gates.now left_of (left_scale k_ops weight values) c.args.from start c.min-end.result c.choose-count.new.chosen c.choose-count.result (length c.loop-block.scales)
          c.choose-count.ensures.chosen within c.loop-k.scales c.loop-k.k (min (128 * (c.loop-block.block + 1)) (length c.args.gates.now)) (omega arith) ordered all next c.loop-k.invariant.scales;
      shifts = block_sent k_ops k_laws c.args.gates.now left_of (left_shift k_ops weight values) c.args.from start c.min-end.result c.choose-count.new.chosen c.choose-count.result (length c.loop-block.scales)
          c.choose-count.ensures.chosen within c.loop-k.shifts c.loop-k.k (min (128 * (c.loop-block.block + 1)) (length c.args.gates.now)) (omega arith) ordered all next c.loop-k.invariant.shifts;
    }

pub returns : goal.returns
returns g c =
    let all : length c.args.gates.now ≤ min (128 * c.loop-block.block) (length c.args.gates.now) = omega arith in
    record {
      scaled = all_sent k_ops k_laws c.args.gates.now left_of _ c.args.from c.loop-block.scales _ all c.loop-block.invariant.scales;
      shifted = all_sent k_ops k_laws c.args.gates.now left_of _ c.args.from c.loop-block.shifts _ all c.loop-block.invariant.shifts;
    }
