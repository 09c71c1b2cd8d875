use Rattle.std.proofs.Common.{◌∙◌, arith}
use Rattle.audit_core.proofs.Difference.{claimed-past, claimed-here}
use Rattle.audit_core.proofs.outputs.claimed.Goals as goal

pub returns-then-outputs-g : goal.returns-then-outputs-g
returns-then-outputs-g c width = c.zero-then-outputs-g.ensures ∙ claimed-past width c.args.outputs.now c.args.g (omega arith)

pub returns : goal.returns
returns c width = c.embed.ensures ∙ claimed-here width c.args.outputs.now c.args.g c.index-outputs-g.result (omega arith) (omega arith) c.index-outputs-g.is
