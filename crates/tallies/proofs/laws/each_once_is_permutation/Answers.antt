use Rattle.tallies.proofs.api.Once.{each_once_permutation}
use Rattle.tallies.proofs.laws.each_once_is_permutation.Goals as goal

pub returns : goal.returns
returns c = each_once_permutation
