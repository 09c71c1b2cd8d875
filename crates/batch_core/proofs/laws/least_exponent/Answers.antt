use Rattle.batch_core.proofs.api.CopyExponent.{enough, least}
use Rattle.batch_core.proofs.laws.least_exponent.Goals as goal

pub returns-clause-enough : goal.returns-clause-enough
returns-clause-enough c = enough

pub returns-clause-least : goal.returns-clause-least
returns-clause-least c = least
