use Rattle.case_text.specs.declared.case.form.Form.TheVariants.{Full}
use Rattle.gkr_cmd.specs.Replies.{IsConvertAnswer}
use Rattle.gkr_cmd.specs.Runs.{IsConvertible}
use Rattle.gkr_cmd.proofs.ConvertAnswers.{convert_done}
use Rattle.gkr_cmd.proofs.OneReply.{done}
use Rattle.gkr_cmd.proofs.laws.convertible_is_done.Goals as goal

pub returns : goal.returns
returns c version =
    done Full (IsConvertAnswer version) (IsConvertible version)
    (λ content reply can. convert_done (record { circuit = c.one_circuit.ensures; refusal = c.one_circuit_refusal.ensures; either = c.compiled_or_refused.ensures })
    (record { form = c.one_saying.ensures.form; reading = c.one_saying.ensures.reading; trouble = c.one_saying.ensures.trouble; none = c.one_saying.ensures.none }) version content reply can)
