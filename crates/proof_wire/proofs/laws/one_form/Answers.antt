use Rattle.proof_wire.proofs.api.Apart.{one_form}
use Rattle.proof_wire.proofs.laws.one_form.Goals as goal

pub returns : goal.returns
returns c = one_form
