use Rattle.arr_eval.proofs.api.Sized.{value-sized}
use Rattle.arr_eval.proofs.laws.values_are_sized.Goals as goal

pub returns : goal.returns
returns c = value-sized
