use Rattle.std.proofs.Common.{length}
use Rattle.transcript_fs.proofs.Coordinates.{Drawing}
use Rattle.transcript_fs.proofs.point.draw_point.Given as goal

abbrev pub invariant-loop-coordinate : goal.invariant-loop-coordinate
invariant-loop-coordinate g l = Drawing g.C.Challenges.source (g.C.Challenges.state l.fn.challenges) (length l.fn.point) l.coordinate-index (g.C.Challenges.state l.challenges) l.point
