-- The ledger that counts the steps
use Rattle.round_tables.proofs.open.OpenTables.gathered.Given as goal

abbrev pub ghosts-gathered_from : goal.ghosts-gathered_from
ghosts-gathered_from a = record { name = a.blank.name; parts = a.blank.parts }
