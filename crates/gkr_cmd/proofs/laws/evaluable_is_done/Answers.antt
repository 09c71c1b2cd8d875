use Rattle.case_text.specs.declared.case.form.Form.TheVariants.{Plain}
use Rattle.gkr_cmd.specs.Replies.{IsEvalAnswer}
use Rattle.gkr_cmd.specs.Runs.{IsEvaluable}
use Rattle.gkr_cmd.proofs.EvalAnswers.{eval_done}
use Rattle.gkr_cmd.proofs.OneReply.{done}
use Rattle.gkr_cmd.proofs.laws.evaluable_is_done.Goals as goal

pub returns : goal.returns
returns c =
    done Plain IsEvalAnswer IsEvaluable (eval_done (record { tree = c.one_tree.ensures; refusal = c.one_refusal.ensures; either = c.accepted_or_refused.ensures }))
