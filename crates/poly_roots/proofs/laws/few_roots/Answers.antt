-- The law of roots over any ring, at K
use Rattle.poly_roots.proofs.AtField.{k_few_roots}
use Rattle.poly_roots.proofs.laws.few_roots.Goals as goal

pub returns : goal.returns
returns c = k_few_roots
