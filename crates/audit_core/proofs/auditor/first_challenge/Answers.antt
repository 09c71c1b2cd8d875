use Rattle.std.proofs.lemmas.Grind.{common_steps}
use Rattle.std.proofs.Common.{arith}
use Rattle.audit_core.proofs.auditor.first_challenge.Goals as goal

pub returns-in-Some-message : goal.returns-in-Some-message
returns-in-Some-message c = grind (arith, common_steps)
