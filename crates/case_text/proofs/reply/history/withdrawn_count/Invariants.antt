use Rattle.std.proofs.Common.{◌≡◌, ◌+◌, ◌≤◌, drop}
use Rattle.case_text.specs.Histories.{withdrawn_count}
use Rattle.case_text.proofs.reply.history.withdrawn_count.Given as goal

abbrev pub invariant-loop-line : goal.invariant-loop-line
invariant-loop-line l = record {
  few : l.count ≤ l.line-index;
  counted : l.count + withdrawn_count (drop l.line-index l.lines) ≡ withdrawn_count l.lines;
}
