use Rattle.case_prove.proofs.AuditedCases.{falsehood_named}
use Rattle.case_prove.proofs.laws.accepted_falsehood_is_named.Goals as goal

pub returns : goal.returns
returns c = falsehood_named c.circuit_computes.ensures.inputs c.circuit_computes.ensures.computes c.accepted_falsehood_is_named.ensures
