use Rattle.proof_wire.specs.declared.form.ProofForm.TheVariants.{Line}
use Rattle.case_prove.proofs.AuditedCases.{proved_unnamed}
use Rattle.case_prove.proofs.laws.proved_is_unnamed.Goals as goal

pub returns : goal.returns
returns c = proved_unnamed c.one_tree.ensures c.circuit_computes.ensures.inputs c.circuit_computes.ensures.computes (c.honest_is_accepted.ensures.proofs Line) c.honesty_is_unnamed.ensures
