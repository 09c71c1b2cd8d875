use Rattle.std.proofs.lemmas.Result.{IfOk-weaker}
use Rattle.script_prove.proofs.Replies.{are_served}
use Rattle.script_prove.proofs.script.serve_script.Goals as goal

pub returns : goal.returns
returns g c = IfOk-weaker c.served.result _ _
    (λ served answers. are_served c.args.script.items c.in_ok-jobs.jobs.items c.in_ok-outcomes.outcomes.items served.items c.in_ok-jobs.ensures c.in_ok-outcomes.ensures answers)
    c.served.ensures
