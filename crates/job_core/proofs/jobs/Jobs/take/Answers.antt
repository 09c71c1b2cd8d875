use Rattle.std.proofs.Common.{rules, ◌≤◌}
use Rattle.job_core.specs.declared.entry.JobState.TheVariants.{Running}
use Rattle.job_core.proofs.Firsts.{none_before_set}
use Rattle.job_core.proofs.jobs.Jobs.take.Goals as goal

pub first_from-self-inside-requires-clause-before :
    goal.first_from-self-inside-requires-clause-before
first_from-self-inside-requires-clause-before c = let here : c.self.inside.first ≤ c.args.job = search rules in
    none_before_set c.self.inside.jobs.items c.deref.result.now c.args.job c.self.inside.first Running c.self.invariant.2 here c.deref.ensures.value
