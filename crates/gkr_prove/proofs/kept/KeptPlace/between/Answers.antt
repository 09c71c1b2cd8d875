use Rattle.std.proofs.Common.{rules}
use Rattle.gkr_prove.proofs.kept.KeptPlace.between.Goals as goal

pub returns-in_ok-second-in-Pair : goal.returns-in_ok-second-in-Pair
returns-in_ok-second-in-Pair c = search rules
