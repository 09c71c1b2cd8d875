-- The laws of polynomials at the field
use Rattle.std.proofs.Common.{◌≡◌, ℕ, ◌+◌, ◌≤◌, List, length, get_or}
use Rattle.field_ext.specs.Field.{K, k_ops, zero_k, mul_k}
use Rattle.field_ext.proofs.api.KLaws.{k_laws, k_no_zero_divisors}
use Rattle.field_ext.specs.Polynomial.{value_at, power, IsZero, HasAtMost}
use Rattle.field_ext.specs.Sums.{sum_below}
use Rattle.poly_roots.proofs.api.Roots.{few_roots}
use Rattle.poly_roots.proofs.Powers.{value_by_powers}

pub k_few_roots : (d : ℕ) (cs : List K) → length cs ≤ d + 1 → ¬ IsZero k_ops cs → HasAtMost d (λ e. value_at k_ops cs e ≡ zero_k)
k_few_roots = few_roots k_ops k_laws k_no_zero_divisors

pub k_value_by_powers : (cs : List K) (e : K) → value_at k_ops cs e ≡ sum_below k_ops (length cs) (λ n. mul_k (get_or cs n zero_k) (power k_ops e n))
k_value_by_powers = value_by_powers k_ops k_laws
