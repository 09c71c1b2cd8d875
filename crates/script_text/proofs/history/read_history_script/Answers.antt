use Rattle.case_text.proofs.api.Readings.{answers_found, answers_only}
use Rattle.script_text.specs.Scripts.{SpellsHistoryScript, marked_job_at, jobs_at, jobs_of}
use Rattle.script_text.proofs.HistoryTexts.{history_exact}
use Rattle.script_text.proofs.history.read_history_script.Goals as goal

pub returns-clause-found : goal.returns-clause-found
returns-clause-found c = answers_found (λ jobs text. SpellsHistoryScript text jobs) (jobs_at marked_job_at 256) history_exact c.args.bytes.now (jobs_of c.placed.result) c.placed.ensures

pub returns-clause-only : goal.returns-clause-only
returns-clause-only c = answers_only (λ jobs text. SpellsHistoryScript text jobs) (jobs_at marked_job_at 256) history_exact c.args.bytes.now (jobs_of c.placed.result) c.placed.ensures
