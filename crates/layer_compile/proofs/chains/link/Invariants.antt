-- The chains so far are those of the nodes passed, from the last
use Rattle.std.proofs.Common.{◌≤◌, ◌<◌, ◌+◌, ℕ, length, get_or}
use Rattle.layer_compile.specs.Next.{IsNext, has_level}
use Rattle.layer_compile.proofs.chains.link.Given as goal

abbrev pub invariant-loop-k : goal.invariant-loop-k
invariant-loop-k l = record {
  firsts : (h : ℕ) → h ≤ length l.levels → IsNext (has_level l.levels h) (length l.levels) l.k (get_or l.first h 0);
  nexts : (j : ℕ) → l.k ≤ j → j < length l.levels → IsNext (has_level l.levels (get_or l.levels j 0)) (length l.levels) (j + 1) (get_or l.next j 0);
}
