use Rattle.std.proofs.lemmas.Grind.{common_steps}
use Rattle.std.proofs.Common.{arith}
use Rattle.transcript_fs.proofs.transcript.Transcript.start_named.Goals as goal

pub returns : goal.returns
returns c = grind (arith, common_steps)
