use Rattle.proof_wire.specs.declared.form.ProofForm.TheVariants.{Line}
use Rattle.case_prove.proofs.laws.audit_has_the_verdict.Goals as goal

pub returns : goal.returns
returns c content audit is = record {
  parts = is.parts;
  outputs = is.outputs;
  claim = is.proof.claim;
  as_many = is.proof.as_many;
  form = Line;
  messages = is.messages;
  of_shape = is.proof.of_shape;
  spelled = is.proof.spelled;
  verdict_is = is.audit_is.verdict;
}
