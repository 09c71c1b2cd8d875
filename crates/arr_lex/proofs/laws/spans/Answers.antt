use Rattle.arr_lex.proofs.Spans.{spans}
use Rattle.arr_lex.proofs.laws.spans.Goals as goal

pub returns : goal.returns
returns c = spans
