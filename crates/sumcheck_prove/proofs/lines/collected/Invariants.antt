-- The lines of the jobs passed, one after another
use Rattle.std.proofs.Common.{◌≡◌, [], ◌*◌, ◌≤◌, map, get_or, vec_len, vec_capacity}
use Rattle.line_reduce.specs.Parts.{joined}
use Rattle.sumcheck_prove.specs.Jobs.{line_of}
use Rattle.sumcheck_prove.proofs.lines.collected.Given as goal

abbrev pub invariant-loop-k : goal.invariant-loop-k
invariant-loop-k l = record {
  lines : l.lines.items ≡ joined (λ j. get_or (map line_of l.jobs) j []) l.k;
  size : vec_len l.lines ≡ 12 * l.k;
  capacity : vec_capacity l.fn.lines ≤ vec_capacity l.lines;
}
