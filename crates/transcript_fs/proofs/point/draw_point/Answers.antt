use Rattle.std.proofs.Common.{length, arith, ◌<◌}
use Rattle.transcript_fs.proofs.Coordinates.{has_next, drawn_more}
use Rattle.transcript_fs.proofs.point.draw_point.Goals as goal

pub challenge-requires : goal.challenge-requires
challenge-requires g c =
    let inside : c.loop-coordinate.coordinate-index < length c.args.point.now = omega (arith, c.loop-coordinate-test.true, c.loop-coordinate.auto.point) in
    has_next g.C.Challenges.source (g.C.Challenges.state c.args.challenges.now) (length c.args.point.now) c.loop-coordinate.coordinate-index (g.C.Challenges.state c.loop-coordinate.challenges) c.loop-coordinate.point c.loop-coordinate.invariant inside

pub loop-coordinate-preserved : goal.loop-coordinate-preserved
loop-coordinate-preserved g c =
    let inside : c.loop-coordinate.coordinate-index < length c.args.point.now = omega (arith, c.loop-coordinate-test.true, c.loop-coordinate.auto.point) in
    let within : c.loop-coordinate.coordinate-index < length c.loop-coordinate.point = omega (arith, c.loop-coordinate-test.true, c.loop-coordinate.auto.point) in
    drawn_more g.C.Challenges.source (g.C.Challenges.state c.args.challenges.now) (length c.args.point.now) c.loop-coordinate.coordinate-index (g.C.Challenges.state c.loop-coordinate.challenges) c.loop-coordinate.point c.loop-coordinate.invariant inside
    c.challenge.result (g.C.Challenges.state c.challenge.new.self) within c.challenge.ensures.value c.challenge.ensures.state
