use Rattle.chunk_board.proofs.PartEnds.{home_or_held}
use Rattle.chunk_board.proofs.laws.each_part_home_or_held.Goals as goal

pub returns : goal.returns
returns g c = home_or_held
