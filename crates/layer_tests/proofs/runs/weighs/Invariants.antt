-- The ledger that counts the steps
use Rattle.layer_tests.proofs.runs.weighs.Given as goal

abbrev pub ghosts-counted : goal.ghosts-counted
ghosts-counted g a = record { name = a.blank.name; parts = a.blank.parts }
