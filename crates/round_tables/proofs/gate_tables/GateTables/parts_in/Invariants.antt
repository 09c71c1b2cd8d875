-- The ledger that counts the steps
use Rattle.round_tables.proofs.gate_tables.GateTables.parts_in.Given as goal

abbrev pub ghosts-parts_in_from : goal.ghosts-parts_in_from
ghosts-parts_in_from a = record { name = a.blank.name; parts = a.blank.parts }
