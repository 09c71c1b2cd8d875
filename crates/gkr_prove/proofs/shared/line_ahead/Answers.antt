use Rattle.std.proofs.Common.{rules}
use Rattle.gkr_prove.proofs.shared.line_ahead.Goals as goal

pub returns : goal.returns
returns g c = search rules
