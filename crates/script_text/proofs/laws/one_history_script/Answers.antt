-- Bytes spell at most one such script.
use Rattle.text_parts.proofs.api.Whole.{whole_one}
use Rattle.script_text.specs.Scripts.{SpellsHistoryScript, marked_job_at, jobs_at}
use Rattle.script_text.proofs.HistoryTexts.{history_exact}
use Rattle.script_text.proofs.laws.one_history_script.Goals as goal

pub returns : goal.returns
returns c = whole_one (λ jobs text. SpellsHistoryScript text jobs) (jobs_at marked_job_at 256) history_exact
