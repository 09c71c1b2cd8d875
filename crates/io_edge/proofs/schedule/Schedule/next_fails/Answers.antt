use Rattle.std.proofs.Common.{rules}
use Rattle.io_edge.proofs.schedule.Schedule.next_fails.Goals as goal

pub returns-clause-fails : goal.returns-clause-fails
returns-clause-fails c = search rules
