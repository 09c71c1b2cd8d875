use Rattle.std.proofs.Common.{◌≡◌, ◌≤◌, None, false, length}
use Rattle.chunk_board.specs.PartViews.{IsOfParts}
use Rattle.phase_run.specs.Work.{ArePartsWorked}
use Rattle.phase_run.proofs.part_workers.work_on.Given as goal

abbrev pub invariant-loop-turn : goal.invariant-loop-turn
invariant-loop-turn g l = record {
  board : IsOfParts l.board l.claimer;
  same : l.claimer.shares ≡ l.fn.claimer.shares;
  going : l.claimer.stopped ≡ false;
  free : l.claimer.held ≡ None;
  few : length l.claimer.drawn ≤ length l.board.parts;
  turns : length l.claimer.drawn ≡ l.turn;
  done : ArePartsWorked (g.W.PartWork.part_of l.work) l.board.parts l.claimer.put l.claimer.drawn;
}
