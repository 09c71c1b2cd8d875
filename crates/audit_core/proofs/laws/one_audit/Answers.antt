use Rattle.audit_core.proofs.Unique.{one_audit}
use Rattle.audit_core.proofs.laws.one_audit.Goals as goal

pub returns : goal.returns
returns c = one_audit
