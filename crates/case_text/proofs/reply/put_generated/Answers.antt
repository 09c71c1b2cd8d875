use Rattle.std.proofs.lemmas.Grind.{common_steps}
use Rattle.std.proofs.Common.{arith}
use Rattle.case_text.proofs.reply.put_generated.Goals as goal

pub returns : goal.returns
returns c = grind (arith, common_steps)
