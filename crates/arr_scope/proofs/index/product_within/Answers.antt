use Rattle.std.proofs.Common.{arith, ◌^◌, w64, FitsSigned}
use Rattle.std.specs.Prelude.{◌*ℤ◌}
use Rattle.std.proofs.lemmas.Int.{to_z-of_z, fits_signed_mul}
use Rattle.arr_scope.proofs.index.product_within.Goals as goal

pub returns-clause-value : goal.returns-clause-value
returns-clause-value c =
    let fits : FitsSigned w64 (c.args.left *ℤ c.args.right) = fits_signed_mul w64 c.args.left c.args.right (2 ^ 31) (2 ^ 31) c.requires.left c.requires.right (omega arith) in
    let left = to_z-of_z w64 c.args.left c.ranges.left in
    let right = to_z-of_z w64 c.args.right c.ranges.right in
    let whole = to_z-of_z w64 (c.args.left *ℤ c.args.right) fits in
    simp (left, right, whole) at c.within.ensures.value
