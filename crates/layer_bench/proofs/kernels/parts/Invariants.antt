-- Two numbers below p a pair
use Rattle.std.proofs.Common.{◌≡◌, ◌*◌, length}
use Rattle.lane_kernel.specs.Kernel.{AreBelow}
use Rattle.layer_bench.proofs.kernels.parts.Given as goal

abbrev pub invariant-loop-j : goal.invariant-loop-j
invariant-loop-j l = AreBelow l.found.items × (length l.found.items ≡ 2 * l.j)
