-- The pieces add to the round
use Rattle.round_tables.proofs.api.Pieces.{pieces-sum}
use Rattle.round_tables.proofs.laws.pieces_add_to_round.Goals as goal

pub returns : goal.returns
returns c = pieces-sum
