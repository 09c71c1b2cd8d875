use Rattle.case_text.specs.declared.case.form.Form.TheVariants.{Full}
use Rattle.gkr_cmd.specs.Replies.{IsAuditAnswer}
use Rattle.gkr_cmd.specs.Runs.{HasLineProof}
use Rattle.gkr_cmd.proofs.AuditAnswers.{audit_done}
use Rattle.gkr_cmd.proofs.OneReply.{done}
use Rattle.gkr_cmd.proofs.laws.audited_is_done.Goals as goal

pub returns : goal.returns
returns c =
    done Full IsAuditAnswer HasLineProof
    (λ content reply has. audit_done (record { circuit = c.one_circuit.ensures; refusal = c.one_circuit_refusal.ensures; either = c.compiled_or_refused.ensures })
    (record { form = c.one_saying.ensures.form; reading = c.one_saying.ensures.reading; trouble = c.one_saying.ensures.trouble; none = c.one_saying.ensures.none }) content reply has)
