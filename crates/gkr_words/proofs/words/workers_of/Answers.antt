use Rattle.std.proofs.Common.{rules}
use Rattle.gkr_words.proofs.words.workers_of.Goals as goal

pub returns-then-workers-le64 : goal.returns-then-workers-le64
returns-then-workers-le64 c = search rules
