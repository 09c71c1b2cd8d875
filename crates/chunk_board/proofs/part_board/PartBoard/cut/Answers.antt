use Rattle.std.proofs.Common.{rules, ◌≡◌, arith}
use Rattle.chunk_board.proofs.api.PartSteps.{split_keeps}
use Rattle.chunk_board.proofs.part_board.PartBoard.cut.Goals as goal

pub split_seat-seat-requires : goal.split_seat-seat-requires
split_seat-seat-requires g c =
    let is : c.claimer.inside.seat.me.0.shares ≡ c.args.claimer.now.shares = search rules in
    let give = c.requires.give in
    let same = c.requires.amount in (
      search rules,
      search rules,
      λ s r at. split_keeps c.self.inside.table.shared.key s r c.claimer.inside.seat.id c.claimer.inside.seat.me.0 g.K.Amount.amount (omega arith) (omega arith) at,
    )
