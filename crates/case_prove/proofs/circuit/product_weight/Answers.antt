use Rattle.std.proofs.Common.{rules}
use Rattle.case_prove.proofs.circuit.product_weight.Goals as goal

pub returns-in-Add-clause-value : goal.returns-in-Add-clause-value
returns-in-Add-clause-value c = search rules
