use Rattle.std.proofs.Common.{rules}
use Rattle.gkr_prove.proofs.last.last_with.Goals as goal

pub returns-in-Pair : goal.returns-in-Pair
returns-in-Pair c = search rules
