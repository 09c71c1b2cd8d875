use Rattle.std.proofs.Common.{rules}
use Rattle.node_core.proofs.builder.NodeListBuilder.push.Goals as goal

pub returns-clause-ok : goal.returns-clause-ok
returns-clause-ok c = search rules

pub returns-clause-number : goal.returns-clause-number
returns-clause-number c = search rules
