use Rattle.chunk_board.proofs.Interleavings.{interleavings}
use Rattle.chunk_board.proofs.laws.each_piece_once.Goals as goal

pub returns-clause-pieces : goal.returns-clause-pieces
returns-clause-pieces g c = λ n shares out ss p some_share run stopped worked. (interleavings n shares out ss p some_share run stopped worked).0

pub returns-clause-placed : goal.returns-clause-placed
returns-clause-placed g c = λ n shares out ss p some_share run stopped worked. (interleavings n shares out ss p some_share run stopped worked).1
