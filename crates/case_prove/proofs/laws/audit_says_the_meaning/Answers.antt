use Rattle.case_prove.proofs.AuditedCases.{same_is_meaning}
use Rattle.case_prove.proofs.laws.audit_says_the_meaning.Goals as goal

pub returns : goal.returns
returns c = same_is_meaning c.one_tree.ensures c.circuit_computes.ensures.inputs c.circuit_computes.ensures.computes
