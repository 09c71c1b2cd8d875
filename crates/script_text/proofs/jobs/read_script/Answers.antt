use Rattle.case_text.proofs.api.Readings.{answers_found, answers_only}
use Rattle.script_text.specs.Scripts.{SpellsScript, job_at, jobs_at, jobs_of}
use Rattle.script_text.proofs.ScriptTexts.{script_exact}
use Rattle.script_text.proofs.jobs.read_script.Goals as goal

pub returns-clause-found : goal.returns-clause-found
returns-clause-found c = answers_found (λ jobs text. SpellsScript text jobs) (jobs_at job_at 256) script_exact c.args.bytes.now (jobs_of c.placed.result) c.placed.ensures

pub returns-clause-only : goal.returns-clause-only
returns-clause-only c = answers_only (λ jobs text. SpellsScript text jobs) (jobs_at job_at 256) script_exact c.args.bytes.now (jobs_of c.placed.result) c.placed.ensures
