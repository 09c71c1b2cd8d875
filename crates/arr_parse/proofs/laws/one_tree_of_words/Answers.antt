use Rattle.arr_parse.proofs.Unplaced.{one_tree_of_words}
use Rattle.arr_parse.proofs.laws.one_tree_of_words.Goals as goal

pub returns : goal.returns
returns c = one_tree_of_words
