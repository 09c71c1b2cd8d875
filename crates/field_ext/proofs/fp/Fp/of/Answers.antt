use Rattle.std.proofs.Common.{rules}
use Rattle.field_ext.proofs.fp.Fp.of.Goals as goal

pub invariant_of-result : goal.invariant_of-result
invariant_of-result c = search rules
