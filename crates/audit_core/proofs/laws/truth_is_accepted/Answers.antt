use Rattle.audit_core.proofs.Theorem.{truth_accepted}
use Rattle.audit_core.proofs.laws.truth_is_accepted.Goals as goal

pub returns : goal.returns
returns c = truth_accepted
