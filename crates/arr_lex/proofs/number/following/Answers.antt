use Rattle.std.proofs.Common.{rules}
use Rattle.arr_lex.proofs.number.following.Goals as goal

pub returns-then-next-le-MAX_NUMBER : goal.returns-then-next-le-MAX_NUMBER
returns-then-next-le-MAX_NUMBER c = search rules
