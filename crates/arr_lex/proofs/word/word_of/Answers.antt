use Rattle.std.proofs.Common.{rules}
use Rattle.arr_lex.proofs.word.word_of.Goals as goal

pub returns-then-eq-11 : goal.returns-then-eq-11
returns-then-eq-11 c = search rules
