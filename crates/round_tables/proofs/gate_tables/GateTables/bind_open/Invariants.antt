-- The ledger that counts the steps
use Rattle.round_tables.proofs.gate_tables.GateTables.bind_open.Given as goal

abbrev pub ghosts-bind_open_from : goal.ghosts-bind_open_from
ghosts-bind_open_from a = record { name = a.blank.name; parts = a.blank.parts }
