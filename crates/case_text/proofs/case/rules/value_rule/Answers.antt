use Rattle.std.proofs.Common.{rules}
use Rattle.case_text.proofs.case.rules.value_rule.Goals as goal

pub returns-then-following-eq0 : goal.returns-then-following-eq0
returns-then-following-eq0 c = search rules

pub returns-else-following-eq0 : goal.returns-else-following-eq0
returns-else-following-eq0 c = search rules
