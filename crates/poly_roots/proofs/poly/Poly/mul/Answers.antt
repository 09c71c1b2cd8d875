use Rattle.std.proofs.Common.{rules}
use Rattle.poly_roots.proofs.poly.Poly.mul.Goals as goal

pub returns : goal.returns
returns c = search rules
