use Rattle.std.proofs.Common.{rules, ◌≡◌, ◌<◌, Some, slice_get, arith, ap, ◌∙◌}
use Rattle.job_core.specs.declared.entry.JobState.TheVariants.{Queued, Withdrawn}
use Rattle.job_core.specs.JobMachine.{passes, is_queued}
use Rattle.job_core.proofs.api.Places.{get_within, some_read}
use Rattle.job_core.proofs.Firsts.{none_before_set, not_before}
use Rattle.job_core.proofs.jobs.Jobs.withdraw.Goals as goal

pub first_from-self-inside-requires-clause-before :
    goal.first_from-self-inside-requires-clause-before
first_from-self-inside-requires-clause-before c = let at : slice_get c.self.inside.jobs.items c.args.job ≡ Some Queued = let l = c.in-Some-Queued.ensures.lookup.3 in some_read c.deref.result.now c.self.inside.jobs.items c.args.job c.in-Some-Queued.field-0.now Queued l.0 (l.1 Queued) c.deref.ensures.value c.in-Some-Queued.field-0-is in
    let first = c.self.invariant.2 in let low = not_before c.self.inside.jobs.items c.args.job at in
    none_before_set c.self.inside.jobs.items c.deref-2.result.now c.args.job c.self.inside.first Withdrawn first (omega arith) c.deref-2.ensures.value

pub first_from-self-inside-requires-clause-within :
    goal.first_from-self-inside-requires-clause-within
first_from-self-inside-requires-clause-within c = let at : slice_get c.self.inside.jobs.items c.args.job ≡ Some Queued = let l = c.in-Some-Queued.ensures.lookup.3 in some_read c.deref.result.now c.self.inside.jobs.items c.args.job c.in-Some-Queued.field-0.now Queued l.0 (l.1 Queued) c.deref.ensures.value c.in-Some-Queued.field-0-is in
    let first = c.self.invariant.2 in let low = not_before c.self.inside.jobs.items c.args.job at in let within = get_within c.self.inside.jobs.items Queued c.args.job at in
    let few = c.self.invariant.0 in let long = c.deref-2.ensures.len in let cap : c.self.inside.capacity < 4294967296 = search rules in ((omega arith), (omega arith))

pub returns : goal.returns
returns c = let at : slice_get c.self.inside.jobs.items c.args.job ≡ Some Queued = let l = c.in-Some-Queued.ensures.lookup.3 in some_read c.deref.result.now c.self.inside.jobs.items c.args.job c.in-Some-Queued.field-0.now Queued l.0 (l.1 Queued) c.deref.ensures.value c.in-Some-Queued.field-0-is in
    (ap (λ l. passes is_queued (slice_get l c.args.job)) (ap (λ p. p.1) {x = c.args.self.now} {y = (c.self.inside.capacity, c.self.inside.jobs.items)} (search rules)) ∙ ap (passes is_queued) at, search rules)
