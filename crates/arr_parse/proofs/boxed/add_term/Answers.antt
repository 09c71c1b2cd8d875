use Rattle.std.proofs.Common.{rules}
use Rattle.arr_parse.proofs.boxed.add_term.Goals as goal

pub returns-in_err-push : goal.returns-in_err-push
returns-in_err-push g = search rules
