-- What the pairs of a part sum to
use Rattle.std.proofs.Common.{◌≡◌, ℕ, ◌*◌, ◌≤◌, List, length, refl, sym, ◌∙◌, arith, lit<}
use Rattle.field_ext.specs.Field.{K, k_ops}
use Rattle.field_ext.proofs.api.KLaws.{k_laws}
use Rattle.field_ext.specs.Polynomial.{value_at, polynomial_ops}
use Rattle.field_ext.specs.Sums.{sum_below}
use Rattle.mle_table.proofs.api.SumLaws.{sum_below-same}
use Rattle.wiring_poly.proofs.api.Hom.{sum_below-hom}
use Rattle.gkr_layers.proofs.api.RoundPoly.{value_hom}
use Rattle.gkr_layers.proofs.api.Degree.{length-sum_below}
use Rattle.gkr_layers.proofs.api.Coefficients.{from_values, length-coefficients, value-coefficients}
use Rattle.table_parts.specs.Tables.{pair_at, pair_poly}
use Rattle.table_parts.specs.PartTables.{PartTables, HasSize, summed_pairs, part_sum}
use Rattle.table_parts.proofs.api.LoopSteps.{pair_is}

pub summed-all : (p : PartTables) (h : ℕ) → HasSize (2 * h) p → h ≤ 1024 → summed_pairs p ≡ h
summed-all p h size few = omega (arith, size.table, size.scales, size.shifts)

module _ (p : PartTables) where
  abbrev of_pair : ℕ → List K
  of_pair j = pair_poly k_ops p.table p.scales p.shifts j

  of_pair-few : (j : ℕ) → length (of_pair j) ≤ 3
  of_pair-few j = omega arith

  of_pair-value : (e : K) (j : ℕ) → value_at k_ops (of_pair j) e ≡ pair_at k_ops p.table p.scales p.shifts e j
  of_pair-value e j = pair_is k_ops k_laws p.table p.scales p.shifts j _ _ _ _ _ _ _ _ _ e refl refl refl refl refl refl refl refl refl

  all-few : length (sum_below (polynomial_ops k_ops) (summed_pairs p) of_pair) ≤ 3
  all-few = length-sum_below k_ops (summed_pairs p) of_pair 3 of_pair-few

  all-value : (e : K) → value_at k_ops (sum_below (polynomial_ops k_ops) (summed_pairs p) of_pair) e ≡ sum_below k_ops (summed_pairs p) (pair_at k_ops p.table p.scales p.shifts e)
  all-value e =
      sum_below-hom (polynomial_ops k_ops) k_ops (λ q. value_at k_ops q e) (value_hom k_ops k_laws e) (summed_pairs p) of_pair
      ∙ sum_below-same k_ops k_laws (summed_pairs p) _ _ (λ j u. of_pair-value e j)

  -- three coefficients whose polynomial has the values of the pairs' sum are the part's
  pub sum-is : (q : List K) → length q ≡ 3 → ((e : K) → value_at k_ops q e ≡ sum_below k_ops (summed_pairs p) (pair_at k_ops p.table p.scales p.shifts e)) → q ≡ part_sum p
  unfolding part_sum
  sum-is q three is = from_values 3 q (sum_below (polynomial_ops k_ops) (summed_pairs p) of_pair) (lit< tt) three all-few (λ e. is e ∙ sym (all-value e))

  pub length-sum : length (part_sum p) ≡ 3
  unfolding part_sum
  length-sum = length-coefficients k_ops 3 (sum_below (polynomial_ops k_ops) (summed_pairs p) of_pair)

  pub sum-value : (e : K) → value_at k_ops (part_sum p) e ≡ sum_below k_ops (summed_pairs p) (pair_at k_ops p.table p.scales p.shifts e)
  unfolding part_sum
  sum-value e = value-coefficients k_ops k_laws 3 (sum_below (polynomial_ops k_ops) (summed_pairs p) of_pair) e all-few ∙ all-value e
