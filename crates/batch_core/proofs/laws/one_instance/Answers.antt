use Rattle.batch_core.proofs.OneInstance.{one_instance}
use Rattle.batch_core.proofs.laws.one_instance.Goals as goal

pub returns : goal.returns
returns c = one_instance
