-- The positions passed are chosen from
use Rattle.std.proofs.Common.{◌≡◌, ◌+◌, ◌≤◌, length}
use Rattle.gate_gather.specs.Choosing.{AreChosen}
use Rattle.gate_gather.proofs.choosing.choose.Given as goal

abbrev pub invariant-loop-position : goal.invariant-loop-position
invariant-loop-position g l = record {
  few : l.start + l.count ≤ l.position;
  room : length l.chosen ≡ length l.fn.chosen;
  chosen : AreChosen g.S.Side.of l.gates l.from l.places l.start l.position l.chosen l.count;
}
