-- Where such a script is refused.
use Rattle.case_text.proofs.api.Readings.{refused_at}
use Rattle.script_text.specs.Scripts.{SpellsHistoryScript, marked_job_at, jobs_at}
use Rattle.script_text.proofs.HistoryTexts.{history_exact}
use Rattle.script_text.proofs.laws.history_script_refusal_place.Goals as goal

pub returns : goal.returns
returns c = refused_at (λ jobs text. SpellsHistoryScript text jobs) (jobs_at marked_job_at 256) history_exact
