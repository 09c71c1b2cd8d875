-- The law of folding over any ring, at K
use Rattle.mle_table.proofs.AtField.{k_fold}
use Rattle.mle_table.proofs.laws.fold_binds.Goals as goal

pub returns : goal.returns
returns c = k_fold
