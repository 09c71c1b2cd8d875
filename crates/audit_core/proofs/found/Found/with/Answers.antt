use Rattle.std.proofs.Common.{rules}
use Rattle.audit_core.proofs.found.Found.with.Goals as goal

pub returns-then-equals : goal.returns-then-equals
returns-then-equals c = search rules

pub returns-else-equals : goal.returns-else-equals
returns-else-equals c = search rules
