use Rattle.std.proofs.Common.{rules}
use Rattle.gkr_words.proofs.words.case_command.Goals as goal

pub returns-then-eq : goal.returns-then-eq
returns-then-eq c = search rules

pub returns-else-eq-6 : goal.returns-else-eq-6
returns-else-eq-6 c = search rules

pub returns-then-eq-5 : goal.returns-then-eq-5
returns-then-eq-5 c = search rules
