use Rattle.std.proofs.Common.{rules}
use Rattle.node_core.proofs.list.NodeList.inputs.Goals as goal

pub returns : goal.returns
returns c = search rules
