-- The gates passed are sent
use Rattle.std.proofs.Common.{◌≡◌, ◌*◌, min, length, map}
use Rattle.field_ext.specs.Field.{k_ops, embed_k}
use Rattle.field_ext.proofs.api.KLaws.{k_laws}
use Rattle.gate_gather.specs.Gathering.{left_of, left_scale, left_shift}
use Rattle.gate_gather.specs.Choosing.{position_after}
use Rattle.gate_gather.proofs.Sent.{AreSentBefore}
use Rattle.gate_gather.proofs.gathering.gather_left.Given as goal

abbrev pub invariant-loop-block : goal.invariant-loop-block
invariant-loop-block g l = record {
  room : length l.chosen ≡ 128;
  scales : AreSentBefore k_ops k_laws l.gates left_of (left_scale k_ops (g.W.Weights.weight l.weights) (map embed_k l.values)) l.from l.scales (min (128 * l.block) (length l.gates));
  shifts : AreSentBefore k_ops k_laws l.gates left_of (left_shift k_ops (g.W.Weights.weight l.weights) (map embed_k l.values)) l.from l.shifts (min (128 * l.block) (length l.gates));
}

abbrev pub invariant-loop-k : goal.invariant-loop-k
invariant-loop-k g l = record {
  scales : AreSentBefore k_ops k_laws l.gates left_of (left_scale k_ops (g.W.Weights.weight l.weights) (map embed_k l.values)) l.from l.scales (position_after l.chosen l.start l.k);
  shifts : AreSentBefore k_ops k_laws l.gates left_of (left_shift k_ops (g.W.Weights.weight l.weights) (map embed_k l.values)) l.from l.shifts (position_after l.chosen l.start l.k);
}
