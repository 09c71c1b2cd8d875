use Rattle.std.proofs.lemmas.Grind.{common_steps}
use Rattle.std.proofs.Common.{arith}
use Rattle.live_session.proofs.verifier.write_end.Goals as goal

pub returns-clause-end : goal.returns-clause-end
returns-clause-end c = grind (arith, common_steps)
