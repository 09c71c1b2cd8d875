-- The places of the nodes passed are written
use Rattle.std.proofs.Common.{length}
use Rattle.layer_compile.specs.Rows.{is_at}
use Rattle.layer_compile.proofs.PlacesOf.{AreWritten}
use Rattle.layer_compile.proofs.plan.Plan.write_places.Given as goal

abbrev pub invariant-loop-i : goal.invariant-loop-i
invariant-loop-i l = AreWritten (is_at l.self.list.now l.height) (length l.self.list.now.nodes) l.i l.places
