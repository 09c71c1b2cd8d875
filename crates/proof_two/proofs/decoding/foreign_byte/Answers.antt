use Rattle.std.proofs.Common.{rules}
use Rattle.proof_two.proofs.decoding.foreign_byte.Goals as goal

pub returns-then-bytes-at : goal.returns-then-bytes-at
returns-then-bytes-at c = search rules

pub loop-at-preserved : goal.loop-at-preserved
loop-at-preserved c = search rules
