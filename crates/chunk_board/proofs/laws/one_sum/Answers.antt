use Rattle.chunk_board.proofs.Interleavings.{one_sum}
use Rattle.chunk_board.proofs.laws.one_sum.Goals as goal

pub returns : goal.returns
returns g c = one_sum
