-- The low bits and the high bits of a number leave its remainder
use Rattle.std.proofs.Common.{◌+◌, ◌/◌, bit_and}
use Rattle.field_ext.specs.Field.{prime}
use Rattle.field_ext.proofs.api.Elements.{of_same}
use Rattle.field_ext.proofs.api.Words.{folded}
use Rattle.gate_gather.proofs.lazy_sum.shortened.Goals as goal

pub returns-clause-of : goal.returns-clause-of
returns-clause-of c = of_same (bit_and c.args.n prime + c.args.n / 2147483648) c.args.n (folded c.args.n)
