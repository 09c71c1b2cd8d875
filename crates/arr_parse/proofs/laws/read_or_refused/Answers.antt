use Rattle.arr_parse.proofs.FindsProgram.{read_or_refused}
use Rattle.arr_parse.proofs.laws.read_or_refused.Goals as goal

pub returns : goal.returns
returns c = read_or_refused
