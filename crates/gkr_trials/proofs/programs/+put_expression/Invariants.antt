use Rattle.gkr_trials.proofs.programs.+put_expression.Given as goal

abbrev pub decreases-put_expression : goal.decreases-put_expression
decreases-put_expression l = l.depth
