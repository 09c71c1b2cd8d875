use Rattle.std.proofs.Common.{rules, ◌≡◌, ◌≤◌, length, arith}
use Rattle.job_core.specs.JobMachine.{before_queued}
use Rattle.job_core.proofs.Firsts.{first_within}
use Rattle.job_core.proofs.jobs.Jobs.first_queued.Goals as goal

pub returns-else-self-len : goal.returns-else-self-len
returns-else-self-len c = let low = first_within c.args.self.now.1 in let first : c.self.inside.first ≡ before_queued c.args.self.now.1 = search rules in let many : length c.args.self.now.1 ≤ c.self.inside.first = search rules in omega arith

pub returns-then-self-len : goal.returns-then-self-len
returns-then-self-len c = search rules
