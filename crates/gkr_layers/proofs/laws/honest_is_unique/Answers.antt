-- Honest messages are one list
use Rattle.gkr_layers.proofs.Unique.{unique}
use Rattle.gkr_layers.proofs.laws.honest_is_unique.Goals as goal

pub returns : goal.returns
returns c = unique
