-- A sum of numbers is one of elements
use Rattle.std.proofs.Common.{◌+◌, refl}
use Rattle.gate_gather.proofs.LazySums.{sum_is}
use Rattle.gate_gather.proofs.lazy_sum.LazySum.add.Goals as goal

pub returns-clause-element : goal.returns-clause-element
returns-clause-element c = sum_is c.args.self c.args.other (record { re = c.args.self.re + c.args.other.re; im = c.args.self.im + c.args.other.im }) refl refl
