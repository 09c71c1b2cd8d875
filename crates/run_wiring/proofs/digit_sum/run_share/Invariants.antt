-- What is left of the run's numbers, weighed by the table, is the run's share
use Rattle.std.proofs.Common.{◌≡◌, ◌+◌, ◌-◌, ◌*◌, ◌^◌, ◌<◌, ◌≤◌, length, max, drop}
use Rattle.run_wiring.specs.Entries.{weighed, share}
use Rattle.run_wiring.proofs.Entries.{left_over}
use Rattle.run_wiring.proofs.digit_sum.run_share.Given as goal

abbrev pub invariant-loop-j : goal.invariant-loop-j
invariant-loop-j g l = record {
  size : length l.table ≡ 36;
  capacity : length l.next ≡ 36;
  last : l.last < 2 ^ (max (length l.z) (length l.b) - l.j);
  value : weighed l.table (left_over (max (length l.z) (length l.b) - l.j) (drop l.j l.z) (drop l.j l.b) (drop l.j l.c) l.first l.left l.run.lstep l.right l.run.rstep l.last) ≡ share l.z l.b l.c l.run;
  steps : l.steps ≤ l.fn.steps + 72 * l.j;
}
