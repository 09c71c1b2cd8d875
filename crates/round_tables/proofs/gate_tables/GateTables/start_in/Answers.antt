use Rattle.std.proofs.Common.{rules}
use Rattle.round_tables.proofs.gate_tables.GateTables.start_in.Goals as goal

pub start_in-requires-clause-operands : goal.start_in-requires-clause-operands
start_in-requires-clause-operands g c = search rules
