use Rattle.gkr_cmd.proofs.SessionAnswers.{session_done}
use Rattle.gkr_cmd.proofs.laws.session_is_done.Goals as goal

pub returns : goal.returns
returns c = session_done (record { circuit = c.one_circuit.ensures; refusal = c.one_circuit_refusal.ensures; either = c.compiled_or_refused.ensures })
