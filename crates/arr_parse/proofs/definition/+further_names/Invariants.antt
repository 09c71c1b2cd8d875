use Rattle.arr_parse.proofs.definition.+further_names.Given as goal

abbrev pub decreases-further_names : goal.decreases-further_names
decreases-further_names l = l.left
