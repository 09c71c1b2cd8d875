use Rattle.job_table.proofs.api.Calls.{seen_longer}
use Rattle.thread_tests.proofs.jobs.finish_both.Goals as goal

pub seen-done-requires-clause-submitted : goal.seen-done-requires-clause-submitted
seen-done-requires-clause-submitted g c = (c.requires.submitted.0, seen_longer _ _ _ c.finished.ensures.begins c.requires.submitted.1)

pub withdrawn-late-requires-clause-submitted : goal.withdrawn-late-requires-clause-submitted
withdrawn-late-requires-clause-submitted g c = (c.requires.submitted.0, seen_longer _ _ _ c.seen-done.ensures.keeps.begins (seen_longer _ _ _ c.finished.ensures.begins c.requires.submitted.1))

pub finished-requires-2-clause-case : goal.finished-requires-2-clause-case
finished-requires-2-clause-case g c = seen_longer _ _ _ c.withdrawn-late.ensures.keeps.begins (seen_longer _ _ _ c.seen-done.ensures.keeps.begins (seen_longer _ _ _ c.finished.ensures.begins c.requires.second_case))
