use Rattle.gkr_layers.proofs.Few.{few_challenges}
use Rattle.gkr_layers.proofs.laws.few_exceptional.Goals as goal

pub returns : goal.returns
returns c = few_challenges
