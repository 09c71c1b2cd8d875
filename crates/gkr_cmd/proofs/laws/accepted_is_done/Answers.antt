use Rattle.case_text.specs.declared.case.form.Form.TheVariants.{Full}
use Rattle.gkr_cmd.specs.Replies.{IsVerifyAnswer}
use Rattle.case_prove.specs.Verified.{HasAcceptedProof}
use Rattle.case_prove.proofs.api.AcceptedProofs.{verdict_on}
use Rattle.gkr_cmd.proofs.VerifyAnswers.{verify_done}
use Rattle.gkr_cmd.proofs.OneReply.{done}
use Rattle.gkr_cmd.proofs.laws.accepted_is_done.Goals as goal

pub returns : goal.returns
returns c =
    done Full IsVerifyAnswer HasAcceptedProof
    (λ content reply has. verify_done (record { circuit = c.one_circuit.ensures; refusal = c.one_circuit_refusal.ensures; either = c.compiled_or_refused.ensures })
    (record { form = c.one_saying.ensures.form; reading = c.one_saying.ensures.reading; trouble = c.one_saying.ensures.trouble; none = c.one_saying.ensures.none }) content reply (verdict_on content has))
