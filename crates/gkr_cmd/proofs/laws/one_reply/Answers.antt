use Rattle.gkr_cmd.proofs.AuditAnswers.{one_audit}
use Rattle.gkr_cmd.proofs.ConvertAnswers.{one_convert}
use Rattle.gkr_cmd.proofs.ProofRefusals.{IsOneProof}
use Rattle.gkr_cmd.proofs.CircuitAnswers.{IsOne, one_circuit}
use Rattle.gkr_cmd.proofs.EvalAnswers.{one_eval}
use Rattle.gkr_cmd.proofs.DemoAnswers.{one_demo}
use Rattle.gkr_cmd.proofs.ProveAnswers.{IsOneProved, one_prove}
use Rattle.gkr_cmd.proofs.SessionAnswers.{one_session}
use Rattle.gkr_cmd.proofs.VerifyAnswers.{one_verify}
use Rattle.gkr_cmd.proofs.OneReply.{one_reply}
use Rattle.gkr_cmd.proofs.laws.one_reply.Goals as goal

pub returns : goal.returns
returns c =
    let circuits : IsOne = record { circuit = c.one_circuit.ensures; refusal = c.one_circuit_refusal.ensures; either = c.compiled_or_refused.ensures } in
    let proofs : IsOneProved = record { tree = c.one_tree.ensures; inputs = c.circuit_computes.ensures.inputs; proved = c.proved_is_one.ensures } in
    let spelled : IsOneProof = record { form = c.one_saying.ensures.form; reading = c.one_saying.ensures.reading; trouble = c.one_saying.ensures.trouble; none = c.one_saying.ensures.none } in
    one_reply
    (record {
      eval = one_eval (record { tree = c.one_tree.ensures; refusal = c.one_refusal.ensures; either = c.accepted_or_refused.ensures });
      circuit = one_circuit circuits;
      prove = one_prove circuits proofs;
      verify = one_verify circuits spelled;
      audit = one_audit circuits spelled c.audit_is_one.ensures;
      convert = one_convert circuits spelled c.converted_keeps.ensures.one;
      session = one_session circuits c.one_session.ensures;
      demo = one_demo circuits proofs;
    })
