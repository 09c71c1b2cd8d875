use Rattle.case_prove.proofs.AuditedCases.{one_audit}
use Rattle.case_prove.proofs.laws.audit_is_one.Goals as goal

pub returns : goal.returns
returns c = one_audit c.one_circuit.ensures c.one_audit.ensures
