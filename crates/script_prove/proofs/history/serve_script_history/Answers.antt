use Rattle.std.proofs.Common.{◌∙◌, ℕ, Bool, List, length, map, sym, ap, subst, arith}
use Rattle.std.proofs.lemmas.List.{length-map}
use Rattle.case_text.specs.Histories.{History}
use Rattle.prove_serve.specs.History.{IsHistoryOf}
use Rattle.script_prove.specs.declared.prover.JobReply.{JobReply}
use Rattle.script_text.specs.declared.script.MarkedJob.{MarkedJob}
use Rattle.script_text.specs.declared.script.ScriptJob.{ScriptJob}
use Rattle.script_prove.specs.Served.{AreReportedTo, IsServed, IsServedHistory, marked_job}
use Rattle.script_prove.proofs.history.serve_script_history.Goals as goal

pub replies-requires : goal.replies-requires
replies-requires g c = let run = c.in_ok-run.ensures in let many = run.as_many in let jobs = ap length c.in_ok-jobs.ensures in let a = length-map c.args.script.items marked_job in
    let clients = ap length c.in_ok-clients.ensures in let b = length-map c.deref.result.now (λ (job : MarkedJob). job.client) in let s = ap length c.deref.ensures.value in let d = ap length c.deref-4.ensures.value in omega arith

pub returns : goal.returns
returns g c =
    let script = c.args.script.items in
    let run = c.in_ok-run.run' in
    let history : IsHistoryOf (λ (reply : JobReply) (job : ScriptJob). IsServed job reply.job) (map marked_job script) run.outcomes.items run.history.items run.places.items =
    subst (λ (jobs : List (ℕ × ScriptJob × Bool)). IsHistoryOf (λ (reply : JobReply) (job : ScriptJob). IsServed job reply.job) jobs run.outcomes.items run.history.items run.places.items) c.in_ok-jobs.ensures c.in_ok-run.ensures in
    let clients = c.deref-4.ensures.value ∙ c.in_ok-clients.ensures ∙ ap (λ (l : List MarkedJob). map (λ (job : MarkedJob). job.client) l) c.deref.ensures.value in
    let replies = subst (λ (l : List ℕ). AreReportedTo l run.outcomes.items c.in_ok-served.served.items) clients c.in_ok-served.ensures in
    subst (λ (h : History). IsServedHistory script h.jobs h.lines) (sym c.new.ensures) (record {
      outcomes = run.outcomes.items;
      entries = run.history.items;
      places = run.places.items;
      history = history;
      replies = replies;
      lines = rw (c.deref-2.ensures.value, c.deref-3.ensures.value) at c.in_ok-lines.ensures;
    })
