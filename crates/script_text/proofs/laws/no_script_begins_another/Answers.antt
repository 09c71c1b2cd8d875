-- No text of a script begins another.
use Rattle.text_parts.proofs.api.Whole.{whole_alone}
use Rattle.script_text.specs.Scripts.{SpellsScript, job_at, jobs_at}
use Rattle.script_text.proofs.ScriptTexts.{script_exact}
use Rattle.script_text.proofs.laws.no_script_begins_another.Goals as goal

pub returns : goal.returns
returns c = whole_alone (λ jobs text. SpellsScript text jobs) (jobs_at job_at 256) script_exact
