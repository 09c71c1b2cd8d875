use Rattle.std.proofs.Common.{rules}
use Rattle.arr_parse.proofs.cursor.is_due.Goals as goal

pub returns : goal.returns
returns g = search rules
