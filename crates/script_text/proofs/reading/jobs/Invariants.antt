use Rattle.std.proofs.Common.{◌≡◌}
use Rattle.script_text.specs.Scripts.{jobs_at}
use Rattle.text_parts.proofs.api.Loops.{with_prefix}
use Rattle.script_text.proofs.reading.jobs.Given as goal

abbrev pub invariant-loop-jobs : goal.invariant-loop-jobs
invariant-loop-jobs g l = with_prefix l.jobs.items (jobs_at g.J.Job.taking l.left l.rest) ≡ jobs_at g.J.Job.taking 256 l.bytes

abbrev pub decreases-loop-jobs : goal.decreases-loop-jobs
decreases-loop-jobs g l = l.left
