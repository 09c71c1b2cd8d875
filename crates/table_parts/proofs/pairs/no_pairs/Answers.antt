-- The polynomial of zeros
use Rattle.std.proofs.Common.{◌∙◌}
use Rattle.field_ext.specs.Field.{k_ops}
use Rattle.field_ext.proofs.api.KLaws.{k_laws}
use Rattle.table_parts.proofs.api.LoopSteps.{pairs_none}
use Rattle.table_parts.proofs.pairs.no_pairs.Goals as goal

pub returns-clause-value : goal.returns-clause-value
returns-clause-value g c e = c.through.ensures.value e ∙ pairs_none k_ops k_laws _ _ _ e c.zero.ensures c.zero-2.ensures c.zero-3.ensures
