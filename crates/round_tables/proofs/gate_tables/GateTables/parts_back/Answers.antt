use Rattle.std.proofs.Common.{rules}
use Rattle.round_tables.proofs.gate_tables.GateTables.parts_back.Goals as goal

pub invariant_of-self : goal.invariant_of-self
invariant_of-self g = search rules
