use Rattle.chunk_board.proofs.Machine.{reached_sound}
use Rattle.chunk_board.proofs.laws.every_run_keeps_the_rule.Goals as goal

pub returns-clause-rule : goal.returns-clause-rule
returns-clause-rule g c = λ n shares out ss p run. (reached_sound n shares out ss p run).0

pub returns-clause-results : goal.returns-clause-results
returns-clause-results g c = λ n shares out ss p run. (reached_sound n shares out ss p run).1
