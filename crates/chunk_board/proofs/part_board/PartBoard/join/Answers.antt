use Rattle.std.proofs.Common.{rules}
use Rattle.chunk_board.proofs.api.PartSteps.{join_keeps, counts}
use Rattle.chunk_board.proofs.part_board.PartBoard.join.Goals as goal

pub join_seat-requires : goal.join_seat-requires
join_seat-requires g c = (
  search rules,
  search rules,
  search rules,
  search rules,
  λ s r at two there. join_keeps c.self.inside.table.shared.key s r c.claimer.inside.seat.id c.claimer.inside.seat.me.0 c.other.inside.seat.id c.other.inside.seat.me.0 at two there (search rules) (search rules) (search rules) (search rules),
)

pub load-requires : goal.load-requires
load-requires g c = (search rules, search rules, counts c.self.inside.table.shared.key _ _ _)
