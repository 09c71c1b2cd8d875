use Rattle.arr_parse.proofs.Naming.{tells_names}
use Rattle.arr_parse.proofs.laws.numbers_determine_names.Goals as goal

pub returns : goal.returns
returns c = tells_names
