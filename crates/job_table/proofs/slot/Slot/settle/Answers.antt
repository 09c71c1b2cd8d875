use Rattle.std.proofs.Common.{rules}
use Rattle.job_table.proofs.slot.Slot.settle.Goals as goal

pub returns : goal.returns
returns g c = search rules
