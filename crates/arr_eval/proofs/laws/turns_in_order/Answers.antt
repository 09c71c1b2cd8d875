use Rattle.arr_run.proofs.api.StatementRows.{loop-in-order}
use Rattle.arr_eval.specs.Meaning.{numbers}
use Rattle.arr_eval.proofs.laws.turns_in_order.Goals as goal

pub returns : goal.returns
returns c = λ definitions at name low high body before. loop-in-order numbers definitions at name low high body before
