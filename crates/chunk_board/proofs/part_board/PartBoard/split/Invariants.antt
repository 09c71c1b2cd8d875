use Rattle.chunk_board.proofs.part_board.PartBoard.split.Given as goal

abbrev pub ghosts-cut : goal.ghosts-cut
ghosts-cut g a = record { amount = a.give }
