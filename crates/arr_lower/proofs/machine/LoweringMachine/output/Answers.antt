use Rattle.std.proofs.Common.{rules}
use Rattle.arr_lower.proofs.machine.LoweringMachine.output.Goals as goal

pub returns : goal.returns
returns c = search rules
