use Rattle.arr_parse.proofs.TreesRead.{trees_are_read}
use Rattle.arr_parse.proofs.laws.trees_are_read.Goals as goal

pub returns : goal.returns
returns c = trees_are_read
