use Rattle.case_text.specs.declared.case.form.Form.TheVariants.{Plain}
use Rattle.case_prove.specs.Answers.{IsProveAnswer}
use Rattle.gkr_cmd.specs.Runs.{HasCircuit}
use Rattle.gkr_cmd.proofs.ProveAnswers.{prove_done}
use Rattle.gkr_cmd.proofs.OneReply.{done}
use Rattle.gkr_cmd.proofs.laws.provable_is_done.Goals as goal

pub returns : goal.returns
returns c = λ form.
    done Plain (IsProveAnswer form) HasCircuit
    (prove_done (record { circuit = c.one_circuit.ensures; refusal = c.one_circuit_refusal.ensures; either = c.compiled_or_refused.ensures }) form)
