use Rattle.arr_eval.proofs.Runs.{same_meaning}
use Rattle.arr_eval.proofs.laws.same_meaning.Goals as goal

pub returns : goal.returns
returns c = same_meaning
