use Rattle.arr_eval.proofs.api.NumberLaws.{sum_of-append}
use Rattle.arr_eval.proofs.laws.sum_in_parts.Goals as goal

pub returns : goal.returns
returns c = sum_of-append
