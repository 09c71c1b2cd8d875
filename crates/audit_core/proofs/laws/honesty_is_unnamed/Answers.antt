use Rattle.audit_core.proofs.HonestAudit.{honest_audit}
use Rattle.audit_core.proofs.laws.honesty_is_unnamed.Goals as goal

pub returns : goal.returns
returns c = honest_audit
