-- No text of such a script begins another.
use Rattle.text_parts.proofs.api.Whole.{whole_alone}
use Rattle.script_text.specs.Scripts.{SpellsHistoryScript, marked_job_at, jobs_at}
use Rattle.script_text.proofs.HistoryTexts.{history_exact}
use Rattle.script_text.proofs.laws.no_history_script_begins_another.Goals as goal

pub returns : goal.returns
returns c = whole_alone (λ jobs text. SpellsHistoryScript text jobs) (jobs_at marked_job_at 256) history_exact
