use Rattle.std.proofs.Common.{◌+◌, ◌-◌, ◌*◌, ◌^◌, length, map, min}
use Rattle.field_ext.specs.Field.{add_k}
use Rattle.circuit_core.specs.Parts.{leaf_value}
use Rattle.gkr_verify.specs.Blocks.{with_factors}
use Rattle.gkr_verify.proofs.TableSteps.{IsSumTo}
use Rattle.gkr_verify.proofs.BothSteps.{both_weight}
use Rattle.gkr_verify.proofs.both.leaves_at_both.Given as goal

abbrev pub invariant-loop-i : goal.invariant-loop-i
invariant-loop-i l =
    IsSumTo (2 ^ length l.first) (map (leaf_value l.inputs) l.leaves) (both_weight l.first l.second l.fn.weight) (l.i + 1) (add_k l.sum (with_factors l.both l.block l.shares))

abbrev pub invariant-loop-block : goal.invariant-loop-block
invariant-loop-block l =
    IsSumTo (2 ^ length l.first) (map (leaf_value l.inputs) l.leaves) (both_weight l.first l.second l.fn.weight) (min (length l.leaves) (1024 * l.block - 1) + 1) l.sum
