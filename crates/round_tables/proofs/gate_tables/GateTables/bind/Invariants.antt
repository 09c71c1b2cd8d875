-- The ledger that counts the steps
use Rattle.round_tables.proofs.gate_tables.GateTables.bind.Given as goal

abbrev pub ghosts-bind_from : goal.ghosts-bind_from
ghosts-bind_from a = record { name = a.blank.name; parts = a.blank.parts }
