use Rattle.case_text.specs.declared.case.form.Form.TheVariants.{Plain}
use Rattle.gkr_cmd.specs.Replies.{IsCircuitAnswer}
use Rattle.gkr_cmd.specs.Runs.{HasCircuit}
use Rattle.gkr_cmd.proofs.CircuitAnswers.{circuit_done}
use Rattle.gkr_cmd.proofs.OneReply.{done}
use Rattle.gkr_cmd.proofs.laws.laid_out_is_done.Goals as goal

pub returns : goal.returns
returns c =
    done Plain IsCircuitAnswer HasCircuit
    (circuit_done (record { circuit = c.one_circuit.ensures; refusal = c.one_circuit_refusal.ensures; either = c.compiled_or_refused.ensures }))
