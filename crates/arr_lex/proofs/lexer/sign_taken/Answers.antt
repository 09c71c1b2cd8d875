use Rattle.std.proofs.Common.{rules}
use Rattle.arr_lex.proofs.lexer.sign_taken.Goals as goal

pub returns-then-next-eq46-clause-taken : goal.returns-then-next-eq46-clause-taken
returns-then-next-eq46-clause-taken c = search rules
