-- The ledger that counts the steps
use Rattle.round_tables.proofs.gate_tables.GateTables.piece_sum.Given as goal

abbrev pub ghosts-piece_sum_from : goal.ghosts-piece_sum_from
ghosts-piece_sum_from a = record { name = a.blank.name; parts = a.blank.parts }
