use Rattle.arr_compile.proofs.WhiteSpace.{white_space}
use Rattle.arr_compile.proofs.laws.white_space.Goals as goal

pub returns : goal.returns
returns c = white_space c.spans.ensures c.same_anywhere.ensures c.white_space_moves.ensures c.one_tree_of_words.ensures
