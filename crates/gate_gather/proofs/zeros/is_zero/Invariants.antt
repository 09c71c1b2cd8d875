-- The greatest half so far is 0 where all values passed are
use Rattle.std.proofs.Common.{◌≡◌, ◌↔◌}
use Rattle.gate_gather.specs.Scaling.{AreZeros}
use Rattle.gate_gather.proofs.zeros.is_zero.Given as goal

abbrev pub invariant-loop-i : goal.invariant-loop-i
invariant-loop-i l = (l.most ≡ 0) ↔ AreZeros l.table l.from l.i
