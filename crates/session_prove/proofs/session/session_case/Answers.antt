-- Challenges are few.
use Rattle.std.proofs.Common.{rules, arith}
use Rattle.live_session.proofs.api.ProverSteps.{few_words}
use Rattle.session_prove.proofs.session.session_case.Goals as goal

pub overflow_mul-need : goal.overflow_mul-need
overflow_mul-need g c = omega (arith, few_words c.in-Ok.circuit, c.challenge_count.ensures)

pub run_session-requires-clause-paired : goal.run_session-requires-clause-paired
run_session-requires-clause-paired g c κs within = search rules
