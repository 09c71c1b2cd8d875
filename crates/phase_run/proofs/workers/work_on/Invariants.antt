use Rattle.std.proofs.Common.{◌≡◌, ◌≤◌, false, length}
use Rattle.chunk_board.specs.Board.{IsOf}
use Rattle.phase_run.specs.Work.{IsWork}
use Rattle.phase_run.proofs.workers.work_on.Given as goal

abbrev pub invariant-loop-turn : goal.invariant-loop-turn
invariant-loop-turn g l = record {
  board : IsOf l.board l.claimer;
  same : l.claimer.shares ≡ l.fn.claimer.shares;
  going : l.claimer.stopped ≡ false;
  few : length l.claimer.drawn ≤ l.board.pieces;
  turns : length l.claimer.drawn ≡ l.turn;
  done : IsWork (g.W.PieceWork.out_of l.work) l.results.items l.claimer.drawn;
}
