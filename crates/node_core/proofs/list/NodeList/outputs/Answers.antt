use Rattle.std.proofs.Common.{rules}
use Rattle.node_core.proofs.list.NodeList.outputs.Goals as goal

pub returns-clause-value : goal.returns-clause-value
returns-clause-value c = search rules
