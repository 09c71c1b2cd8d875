use Rattle.std.proofs.Common.{rules}
use Rattle.round_tables.proofs.room.prepare_each.Goals as goal

pub loop-i-init : goal.loop-i-init
loop-i-init g c = search rules
