use Rattle.arr_run.proofs.api.StatementRows.{loop-in-order}
use Rattle.arr_check.specs.Shapes.{shapes}
use Rattle.arr_check.proofs.laws.turns_in_order.Goals as goal

pub returns : goal.returns
returns c = λ definitions at name low high body before. loop-in-order shapes definitions at name low high body before
