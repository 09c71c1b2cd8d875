use Rattle.std.proofs.Common.{rules}
use Rattle.node_core.proofs.builder.NodeListBuilder.output.Goals as goal

pub returns-clause-ok : goal.returns-clause-ok
returns-clause-ok c = search rules
