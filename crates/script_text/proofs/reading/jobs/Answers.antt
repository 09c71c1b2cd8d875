use Rattle.std.proofs.Common.{◌≡◌, Ok, false, ◌∙◌, ap, Bool}
use Rattle.std.proofs.lemmas.Result.{err_from_is_err_and}
use Rattle.text_parts.specs.declared.due.DueKind.TheVariants.{Section}
use Rattle.text_parts.specs.Parts.{follows, word_at}
use Rattle.text_parts.proofs.api.Listed.{last_fails, last_taken}
use Rattle.script_text.specs.Scripts.{done, job_initial, jobs_at}
use Rattle.script_text.proofs.reading.jobs.Goals as goal

pub returns-in_err-rest : goal.returns-in_err-rest
returns-in_err-rest g c =
    let p = err_from_is_err_and c.from_residual-in_err-rest.result c.from_residual-in_err-rest.ensures.1 in
    let none : follows job_initial c.loop-jobs.left c.loop-jobs.rest.now ≡ Ok false = c.in_ok-follows.ensures ∙ ap (λ (b : Bool). Ok b) c.if-not-follows.true in
    rw (p.1, p.2) (last_fails job_initial g.J.Job.taking (word_at Section done) c.in_err-rest.field-0.0 c.loop-jobs.jobs.items c.loop-jobs.left c.loop-jobs.rest.now (jobs_at g.J.Job.taking 256 c.args.bytes.now) none c.in_err-rest.ensures c.loop-jobs.invariant)

pub returns : goal.returns
returns g c =
    let none : follows job_initial c.loop-jobs.left c.loop-jobs.rest.now ≡ Ok false = c.in_ok-follows.ensures ∙ ap (λ (b : Bool). Ok b) c.if-not-follows.true in
    last_taken job_initial g.J.Job.taking (word_at Section done) c.loop-jobs.jobs.items c.loop-jobs.left c.loop-jobs.rest.now c.in_ok-rest.rest.now (jobs_at g.J.Job.taking 256 c.args.bytes.now) none c.in_ok-rest.ensures c.loop-jobs.invariant
