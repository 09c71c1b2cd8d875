use Rattle.std.proofs.Common.{rules}
use Rattle.arr_parse.proofs.boxed.loop_of.Goals as goal

pub returns-in_err-new : goal.returns-in_err-new
returns-in_err-new g = search rules
