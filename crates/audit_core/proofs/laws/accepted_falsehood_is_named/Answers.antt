use Rattle.audit_core.proofs.Theorem.{falsehood_named}
use Rattle.audit_core.proofs.laws.accepted_falsehood_is_named.Goals as goal

pub returns : goal.returns
returns c = falsehood_named
