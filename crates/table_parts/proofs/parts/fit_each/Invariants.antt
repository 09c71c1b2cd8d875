-- The parts passed have capacity
use Rattle.std.proofs.Common.{take, All}
use Rattle.table_parts.specs.PartTables.{HasCapacity}
use Rattle.table_parts.proofs.parts.fit_each.Given as goal

abbrev pub invariant-loop-i : goal.invariant-loop-i
invariant-loop-i l = All (HasCapacity l.capacity) (take l.i l.parts)
