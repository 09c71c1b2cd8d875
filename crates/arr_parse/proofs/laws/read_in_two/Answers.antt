use Rattle.arr_parse.proofs.Wider.{read_in_two, tree_in_two}
use Rattle.arr_parse.proofs.laws.read_in_two.Goals as goal

pub returns-clause-read : goal.returns-clause-read
returns-clause-read c = read_in_two

pub returns-clause-tree : goal.returns-clause-tree
returns-clause-tree c = tree_in_two
