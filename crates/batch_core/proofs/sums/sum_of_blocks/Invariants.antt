-- The sum over the blocks so far
use Rattle.std.proofs.Common.{◌≡◌}
use Rattle.batch_core.specs.ListedInstances.{sum_of_blocks}
use Rattle.batch_core.proofs.sums.sum_of_blocks.Given as goal

abbrev pub invariant-loop-m : goal.invariant-loop-m
invariant-loop-m l = l.sum ≡ sum_of_blocks l.m l.outer l.weights l.values
