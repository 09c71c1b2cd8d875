-- As many rooms as turns
use Rattle.std.proofs.Common.{◌≡◌, vec_len}
use Rattle.round_tables.proofs.room.Rooms.new.Given as goal

abbrev pub invariant-loop : goal.invariant-loop
invariant-loop l = vec_len l.rooms ≡ l.counter
