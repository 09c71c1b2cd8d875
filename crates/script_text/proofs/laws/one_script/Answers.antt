-- Bytes spell at most one script.
use Rattle.text_parts.proofs.api.Whole.{whole_one}
use Rattle.script_text.specs.Scripts.{SpellsScript, job_at, jobs_at}
use Rattle.script_text.proofs.ScriptTexts.{script_exact}
use Rattle.script_text.proofs.laws.one_script.Goals as goal

pub returns : goal.returns
returns c = whole_one (λ jobs text. SpellsScript text jobs) (jobs_at job_at 256) script_exact
