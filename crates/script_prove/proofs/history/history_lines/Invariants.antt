use Rattle.std.proofs.Common.{◌≡◌, ◌≤◌, length, map, take, vec_len, vec_capacity}
use Rattle.script_prove.specs.Served.{line_of}
use Rattle.script_prove.proofs.history.history_lines.Given as goal

abbrev pub invariant-loop-entry : goal.invariant-loop-entry
invariant-loop-entry l = record {
  many : vec_len l.lines ≡ l.entry-index;
  capacity : length l.history ≤ vec_capacity l.lines;
  done : l.lines.items ≡ map (line_of l.places) (take l.entry-index l.history);
}
