use Rattle.job_table.proofs.api.Calls.{seen_longer}
use Rattle.thread_tests.proofs.jobs.a_pass_sees_what_another_did.Goals as goal

pub withdrawn-late-requires-2-clause-submitted : goal.withdrawn-late-requires-2-clause-submitted
withdrawn-late-requires-2-clause-submitted g c = (8, seen_longer _ _ _ c.withdrawn-late.ensures.keeps.begins c.accepted-receipt.ensures.submitted)
