-- The parts passed are folded
use Rattle.std.proofs.Common.{◌≡◌, ◌+◌, ◌*◌, ◌++◌, map, take, drop}
use Rattle.table_parts.specs.PartTables.{folded_part}
use Rattle.table_parts.proofs.parts.fold_parts.Given as goal

abbrev pub invariant-loop-i : goal.invariant-loop-i
invariant-loop-i g l = record {
  parts : l.parts ≡ map (folded_part l.r) (take l.i l.fn.parts) ++ drop l.i l.fn.parts;
  steps : l.steps ≡ l.fn.steps + 3 * (l.i * l.half);
}
