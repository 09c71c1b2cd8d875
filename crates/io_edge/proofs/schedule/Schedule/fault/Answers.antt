use Rattle.std.proofs.Common.{rules}
use Rattle.io_edge.proofs.schedule.Schedule.fault.Goals as goal

pub returns-clause-faults : goal.returns-clause-faults
returns-clause-faults c = search rules

pub returns-clause-later : goal.returns-clause-later
returns-clause-later c = search rules
