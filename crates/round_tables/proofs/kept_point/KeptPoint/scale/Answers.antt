use Rattle.std.proofs.Common.{rules}
use Rattle.round_tables.proofs.kept_point.KeptPoint.scale.Goals as goal

pub returns-clause-scaled : goal.returns-clause-scaled
returns-clause-scaled g c = search rules
