use Rattle.std.proofs.Common.{◌≡◌, ◌++◌, ◌+◌, drop, length}
use Rattle.case_text.specs.Spelling.{values_text}
use Rattle.case_text.proofs.case.writing.put_values.Given as goal

abbrev pub invariant-loop-value : goal.invariant-loop-value
invariant-loop-value l = record {
  left : l.following + l.value-index ≡ length l.values;
  written : l.out.items ++ values_text (drop l.value-index l.values) ≡ l.fn.out.items ++ values_text l.values;
}
