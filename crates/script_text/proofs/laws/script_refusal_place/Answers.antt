-- Where a script is refused.
use Rattle.case_text.proofs.api.Readings.{refused_at}
use Rattle.script_text.specs.Scripts.{SpellsScript, job_at, jobs_at}
use Rattle.script_text.proofs.ScriptTexts.{script_exact}
use Rattle.script_text.proofs.laws.script_refusal_place.Goals as goal

pub returns : goal.returns
returns c = refused_at (λ jobs text. SpellsScript text jobs) (jobs_at job_at 256) script_exact
