use Rattle.std.proofs.Common.{◌≡◌, ◌++◌, drop}
use Rattle.case_text.specs.Replies.{history_lines}
use Rattle.case_text.proofs.reply.history.put_history_lines.Given as goal

abbrev pub invariant-loop-line : goal.invariant-loop-line
invariant-loop-line l = l.out.items ++ history_lines (drop l.line-index l.lines) ≡ l.fn.out.items ++ history_lines l.lines
