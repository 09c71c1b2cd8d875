use Rattle.gkr_cmd.proofs.ConvertAnswers.{replied_alike}
use Rattle.gkr_cmd.proofs.laws.converted_replies_alike.Goals as goal

pub returns : goal.returns
returns c =
    replied_alike (record { circuit = c.one_circuit.ensures; refusal = c.one_circuit_refusal.ensures; either = c.compiled_or_refused.ensures })
    (record { form = c.one_saying.ensures.form; reading = c.one_saying.ensures.reading; trouble = c.one_saying.ensures.trouble; none = c.one_saying.ensures.none }) c.converted_keeps.ensures.verdict
