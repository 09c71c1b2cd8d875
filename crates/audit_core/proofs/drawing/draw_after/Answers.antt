use Rattle.std.proofs.Common.{rules}
use Rattle.audit_core.proofs.drawing.draw_after.Goals as goal

pub returns-clause-drawn : goal.returns-clause-drawn
returns-clause-drawn g c = search rules

pub returns-clause-state : goal.returns-clause-state
returns-clause-state g c = search rules
