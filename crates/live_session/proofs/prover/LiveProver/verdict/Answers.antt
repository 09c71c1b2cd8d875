-- Eight bytes for each challenge are few
use Rattle.std.proofs.Common.{rules, arith}
use Rattle.live_session.proofs.api.ProverSteps.{few_words}
use Rattle.live_session.proofs.prover.LiveProver.verdict.Goals as goal

pub overflow_mul-due : goal.overflow_mul-due
overflow_mul-due c = omega (arith, few_words c.self.inside.circuit.now, c.challenge_count-due.ensures)

pub returns-then-len-due : goal.returns-then-len-due
returns-then-len-due c = search rules
