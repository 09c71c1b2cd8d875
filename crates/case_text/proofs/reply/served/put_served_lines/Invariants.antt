use Rattle.std.proofs.Common.{◌≡◌, ◌++◌, drop}
use Rattle.case_text.specs.Replies.{served_lines}
use Rattle.case_text.proofs.reply.served.put_served_lines.Given as goal

abbrev pub invariant-loop-job : goal.invariant-loop-job
invariant-loop-job l = l.out.items ++ served_lines (drop l.job-index l.jobs) ≡ l.fn.out.items ++ served_lines l.jobs
