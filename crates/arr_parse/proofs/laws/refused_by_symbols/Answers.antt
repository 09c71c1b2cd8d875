use Rattle.arr_parse.proofs.Symbols.{refused_by_symbols}
use Rattle.arr_parse.proofs.laws.refused_by_symbols.Goals as goal

pub returns : goal.returns
returns c = refused_by_symbols
