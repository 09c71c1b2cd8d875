use Rattle.std.proofs.Common.{rules}
use Rattle.case_prove.proofs.started.transcript_of.Goals as goal

pub returns-in-Line : goal.returns-in-Line
returns-in-Line c = search rules

pub returns-in-Pair : goal.returns-in-Pair
returns-in-Pair c = search rules
