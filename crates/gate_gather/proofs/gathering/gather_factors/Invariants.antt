-- The factors of the gates passed are sent
use Rattle.std.proofs.Common.{◌≡◌, ◌*◌, min, length}
use Rattle.field_ext.specs.Field.{k_ops}
use Rattle.field_ext.specs.Multilinear.{eq_poly}
use Rattle.field_ext.proofs.api.KLaws.{k_laws}
use Rattle.gate_gather.specs.Gathering.{right_of, add_factor, mul_factor}
use Rattle.gate_gather.specs.Choosing.{position_after}
use Rattle.gate_gather.proofs.Sent.{AreSentBefore}
use Rattle.gate_gather.proofs.gathering.gather_factors.Given as goal

abbrev pub invariant-loop-block : goal.invariant-loop-block
invariant-loop-block g l = record {
  room : length l.chosen ≡ 128;
  adds : AreSentBefore k_ops k_laws l.gates right_of (add_factor k_ops (g.W.Weights.weight l.weights) (eq_poly k_ops l.left)) l.from l.adds (min (128 * l.block) (length l.gates));
  muls : AreSentBefore k_ops k_laws l.gates right_of (mul_factor k_ops (g.W.Weights.weight l.weights) (eq_poly k_ops l.left)) l.from l.muls (min (128 * l.block) (length l.gates));
}

abbrev pub invariant-loop-k : goal.invariant-loop-k
invariant-loop-k g l = record {
  adds : AreSentBefore k_ops k_laws l.gates right_of (add_factor k_ops (g.W.Weights.weight l.weights) (eq_poly k_ops l.left)) l.from l.adds (position_after l.chosen l.start l.k);
  muls : AreSentBefore k_ops k_laws l.gates right_of (mul_factor k_ops (g.W.Weights.weight l.weights) (eq_poly k_ops l.left)) l.from l.muls (position_after l.chosen l.start l.k);
}
