use Rattle.std.proofs.Common.{sym, ◌∙◌}
use Rattle.arr_eval.proofs.api.NumberLaws.{dot_of-fold}
use Rattle.arr_eval.proofs.numbers.dot.Goals as goal

pub returns : goal.returns
returns c = c.running_dot.ensures ∙ sym (dot_of-fold c.args.left.now c.args.right.now)
