use Rattle.std.proofs.Common.{◌≡◌, ◌+◌, false}
use Rattle.chunk_board.specs.Board.{IsOf}
use Rattle.thread_tests.proofs.claims.claimed_once_each.Given as goal

abbrev pub invariant-loop-turn : goal.invariant-loop-turn
invariant-loop-turn g l = IsOf l.board l.mine × (l.mine.stopped ≡ false) × (l.mine.shares + l.turn ≡ 64) × (l.drawn + l.none ≡ l.turn)
