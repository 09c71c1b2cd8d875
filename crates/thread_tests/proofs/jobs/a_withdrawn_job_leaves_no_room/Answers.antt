use Rattle.job_table.proofs.api.Calls.{seen_longer}
use Rattle.thread_tests.proofs.jobs.a_withdrawn_job_leaves_no_room.Goals as goal

pub withdrawn-requires-clause-submitted : goal.withdrawn-requires-clause-submitted
withdrawn-requires-clause-submitted g c = (5, c.accepted-receipt.ensures.submitted)

pub seen-gone-requires-clause-submitted : goal.seen-gone-requires-clause-submitted
seen-gone-requires-clause-submitted g c = (5, seen_longer _ _ _ c.refused.ensures.keeps.begins (seen_longer _ _ _ c.withdrawn.ensures.keeps.begins c.accepted-receipt.ensures.submitted))

pub withdrawn-late-requires-clause-submitted : goal.withdrawn-late-requires-clause-submitted
withdrawn-late-requires-clause-submitted g c = (5, seen_longer _ _ _ c.seen-gone.ensures.keeps.begins (seen_longer _ _ _ c.refused.ensures.keeps.begins (seen_longer _ _ _ c.withdrawn.ensures.keeps.begins c.accepted-receipt.ensures.submitted)))
