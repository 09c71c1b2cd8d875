-- The rooms passed are prepared
use Rattle.std.proofs.Common.{take}
use Rattle.round_tables.specs.Ranges.{AreRoomsFor}
use Rattle.round_tables.proofs.room.prepare_each.Given as goal

abbrev pub invariant-loop-i : goal.invariant-loop-i
invariant-loop-i l = AreRoomsFor l.layer l.bound l.parts l.values (take l.i l.rooms)
