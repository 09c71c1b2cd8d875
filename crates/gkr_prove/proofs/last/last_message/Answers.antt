use Rattle.std.proofs.Common.{rules}
use Rattle.gkr_prove.proofs.last.last_message.Goals as goal

pub returns-in_ok-pair-in-Pair : goal.returns-in_ok-pair-in-Pair
returns-in_ok-pair-in-Pair c = search rules
