use Rattle.arr_eval.proofs.api.NumberLaws.{transpose_at}
use Rattle.arr_eval.proofs.laws.transpose_element.Goals as goal

pub returns : goal.returns
returns c = transpose_at
