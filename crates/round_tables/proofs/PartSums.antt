-- What a part sums to
use Rattle.std.proofs.Common.{◌≡◌, ℕ, ◌+◌, ◌-◌, ◌*◌, ◌<◌, List, length, get_or, refl, sym, ◌∙◌, ap, arith, lit<}
use Rattle.field_ext.specs.Field.{k_ops}
use Rattle.field_ext.proofs.api.KLaws.{k_laws}
use Rattle.field_ext.specs.Polynomial.{coefficients}
use Rattle.field_ext.specs.Sums.{sum_below}
use Rattle.mle_table.proofs.api.SumLaws.{sum_below-same}
use Rattle.gkr_layers.proofs.api.Coefficients.{from_values}
use Rattle.table_parts.specs.Tables.{pair_at}
use Rattle.round_tables.specs.LayerSum.{LayerSum, left_in_phase, half_size, part_of_round, piece_poly}
use Rattle.table_parts.specs.PartTables.{PartTables, summed_pairs, part_sum, flat_table, flat_scales, flat_shifts}
use Rattle.round_tables.specs.declared.layer_gates.LayerGates.{LayerGates}
use Rattle.round_tables.specs.declared.working.Working.{Working}
use Rattle.round_tables.specs.Working.{place_of, bound_of, parts_of, IsLayerGates, WorksFor}
use Rattle.table_parts.proofs.api.PairSums.{summed-all, sum-value, length-sum}
use Rattle.round_tables.proofs.PhaseSteps.{some_left, length-count}
use Rattle.round_tables.proofs.PieceValues.{part-pairs}
use Rattle.round_tables.proofs.api.PartDegree.{length-part}
use Rattle.round_tables.proofs.LaidOut.{halves, half-few, left-few, pairs-within, part-pair}

-- a part of a layer's tables sums to its part of the round
module _ (layer : LayerGates) (w : Working) (is : IsLayerGates layer) (works : WorksFor layer w) (left : w.count < layer.k + layer.k) (i : ℕ) (d : PartTables) (within : i < length (parts_of w)) where
  few-left : 0 < left_in_phase layer.k w.count
  few-left = omega (arith, some_left layer.k w.count w.count refl left)

  pub pairs-summed : summed_pairs (get_or (parts_of w) i d) ≡ half_size layer.k w.count
  pairs-summed =
      summed-all (get_or (parts_of w) i d) (half_size layer.k w.count) (halves layer.k (left_in_phase layer.k w.count) (parts_of w) few-left works.laid i d within)
      (half-few layer.k (left_in_phase layer.k w.count) few-left (left-few layer.k w.count) is.layer_is.most)

  pub part-of-round : part_sum (get_or (parts_of w) i d) ≡ coefficients k_ops 3 (part_of_round k_ops layer.k layer.gates.now layer.values.now.items (place_of layer) (bound_of w) (i * half_size layer.k w.count) (i * half_size layer.k w.count + half_size layer.k w.count))
  part-of-round =
      let k = layer.k in
      let ps = parts_of w in
      let m = left_in_phase k w.count in
      let h : ℕ = half_size k w.count in
      let from : ℕ = i * h in
      let gates = layer.gates.now in
      let values = layer.values.now.items in
      let place = place_of layer in
      let bound = bound_of w in
      let n : length (bound_of w) ≡ w.count = length-count w.challenges.items k w.count (sym w.challenges.ok.0 ∙ works.capacities.challenges) works.counted in
      let width : h ≡ from + h - from = omega arith in
      from_values 3 (part_sum (get_or ps i d)) (part_of_round k_ops k gates values place bound from (from + h)) (lit< tt) (length-sum (get_or ps i d)) (length-part k_ops k gates values place bound from (from + h)) (λ e.
      sum-value (get_or ps i d) e
      ∙ (λ j. sum_below k_ops (pairs-summed j) (pair_at k_ops (get_or ps i d).table (get_or ps i d).scales (get_or ps i d).shifts e))
      ∙ sum_below-same k_ops k_laws h _ _ (λ j u. part-pair k m ps few-left works.laid i j d e within u)
      ∙ (λ j. sum_below k_ops (width j) (λ j. pair_at k_ops (flat_table ps) (flat_scales ps) (flat_shifts ps) e (from + j)))
      ∙ sym (part-pairs k_ops k_laws k (m - 1) gates values place bound (flat_table ps) (flat_scales ps) (flat_shifts ps) from (from + h) e (some_left k (length bound) w.count n left) (pairs-within k m ps few-left works.laid i within) works.phase.stand))

  -- which is a piece of the layer's sum
  pub piece-of : (s : LayerSum) (lent : List PartTables) → s ≡ record { k = layer.k; gates = layer.gates.now; values = layer.values.now.items; place = place_of layer; bound = bound_of w; lent = lent } →
      part_sum (get_or (parts_of w) i d) ≡ coefficients k_ops 3 (piece_poly s i)
  piece-of s lent view =
      let n : w.count ≡ length (bound_of w) = sym (length-count w.challenges.items layer.k w.count (sym w.challenges.ok.0 ∙ works.capacities.challenges) works.counted) in
      part-of-round
      ∙ (λ j. coefficients k_ops 3 (part_of_round k_ops layer.k layer.gates.now layer.values.now.items (place_of layer) (bound_of w) (i * half_size layer.k (n j)) (i * half_size layer.k (n j) + half_size layer.k (n j))))
      ∙ ap (λ (s : LayerSum). coefficients k_ops 3 (piece_poly s i)) (sym view)
