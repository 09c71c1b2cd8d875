use Rattle.std.proofs.Common.{sym, ◌∙◌}
use Rattle.arr_parse.proofs.OneProgram.{one_program_tree}
use Rattle.arr_parse.proofs.laws.one_tree.Goals as goal

pub returns : goal.returns
returns c = λ lang text tokens a b first second. one_program_tree a b (sym first.spelled ∙ second.spelled) (first.end ∙ sym second.end)
