-- The pieces of a round add to its true polynomial
use Rattle.std.proofs.Common.{◌≡◌, ℕ, zero, suc, ◌+◌, ◌-◌, ◌*◌, ◌<◌, ◌≤◌, ◌⊎◌, inl, inr, List, [], ◌∷◌, ◌++◌, length, refl, sym, ◌∙◌, ap, ap₂, arith, pow_pos, lit<}
use Rattle.std.proofs.lemmas.Bool.{cases_lt}
use Rattle.field_ext.specs.Ring.{Ops, Laws}
use Rattle.field_ext.specs.Field.{K, k_ops}
use Rattle.field_ext.proofs.api.KLaws.{k_laws}
use Rattle.field_ext.specs.Polynomial.{coefficients, value_at, sum_of, polynomial_ops}
use Rattle.field_ext.specs.Sums.{sum_below, sum_cube}
use Rattle.field_ext.specs.Multilinear.{bits_of}
use Rattle.mle_table.proofs.api.SumLaws.{sum_below-same}
use Rattle.gkr_layers.specs.Places.{weighted_summand_at}
use Rattle.wiring_poly.proofs.api.Identity.{sum_cube-split}
use Rattle.wiring_poly.proofs.api.Sums.{sum_below-append}
use Rattle.wiring_poly.proofs.api.Hom.{sum_below-hom}
use Rattle.gkr_layers.proofs.api.RoundPoly.{value_hom}
use Rattle.gkr_layers.proofs.api.PlaceSums.{value-round_polynomial}
use Rattle.gkr_layers.proofs.api.Degree.{length-round_polynomial}
use Rattle.round_tables.specs.LayerSum.{LayerSum, left_in_phase, after_phase, pieces_of, piece_pairs, piece_poly, next_poly}
use Rattle.table_parts.specs.PartTables.{cuts_left}
use Rattle.round_tables.proofs.LaidOut.{all-pairs}
use Rattle.round_tables.proofs.PhaseSteps.{some_left}
use Rattle.round_tables.proofs.Sums.{sum_cube-bits}
use Rattle.round_tables.proofs.PieceValues.{in_left_phase, in_right_phase, value-part}
use Rattle.gkr_layers.proofs.api.Coefficients.{from_values, length-coefficients}
use Rattle.round_tables.proofs.api.PartDegree.{length-part}
use Rattle.gkr_layers.proofs.api.Coefficients.{value-coefficients}

module _ {A : Type 0} (o : Ops A) (l : Laws A o) where
  -- pieces of n terms each
  sum_pieces : (count n : ℕ) (f : ℕ → A) → sum_below o count (λ piece. sum_below o (piece * n + n - piece * n) (λ j. f (piece * n + j))) ≡ sum_below o (count * n) f
  sum_pieces zero n f = let e : 0 ≡ 0 * n = omega arith in ap (λ (i : ℕ). sum_below o i f) e
  sum_pieces (suc count) n f =
      let width : count * n + n - count * n ≡ n = omega arith in
      let whole : count * n + n ≡ suc count * n = omega arith in
      ap₂ o.add (sum_pieces count n f) (ap (λ (i : ℕ). sum_below o i (λ j. f (count * n + j))) width)
      ∙ sym (sum_below-append o l (count * n) n f)
      ∙ ap (λ (i : ℕ). sum_below o i f) whole

split_phase : (k n : ℕ) → n < k + k → left_in_phase k n - 1 + after_phase k n ≡ k + k - n - 1
split_phase k n u = by_phase (cases_lt n k)
  where
    by_phase : (n < k) ⊎ (k ≤ n) → left_in_phase k n - 1 + after_phase k n ≡ k + k - n - 1
    by_phase (inl v) = let p = in_left_phase k n v in omega (arith, p.0, p.1)
    by_phase (inr v) = let p = in_right_phase k n v in omega (arith, p.0, p.1)

pub pieces-value : (s : LayerSum) (e : K) → length s.bound < s.k + s.k → sum_below k_ops (pieces_of s) (λ piece. value_at k_ops (piece_poly s piece) e) ≡ value_at k_ops (next_poly s) e
pieces-value s e u =
    let n : ℕ = length s.bound in
    let m : ℕ = left_in_phase s.k n - 1 in
    let f : List K → K = λ w. weighted_summand_at k_ops k_ops (λ x. x) s.k s.gates s.values s.place (s.bound ++ e ∷ w) in
    let g : ℕ → K = λ h. sum_cube k_ops (after_phase s.k n) (λ c. f (bits_of k_ops m h ++ c)) in
    let some : 0 < left_in_phase s.k n = omega (arith, some_left s.k n n refl u) in
    sum_below-same k_ops k_laws (pieces_of s) _ _ (λ piece v. value-part k_ops k_laws s.k s.gates s.values s.place s.bound (piece * piece_pairs s) (piece * piece_pairs s + piece_pairs s) e)
    ∙ sum_pieces k_ops k_laws (pieces_of s) (piece_pairs s) g
    ∙ ap (λ (i : ℕ). sum_below k_ops i g) (all-pairs s.k (left_in_phase s.k n) some)
    ∙ sym (sum_cube-bits k_ops k_laws m (λ w. sum_cube k_ops (after_phase s.k n) (λ c. f (w ++ c))))
    ∙ sym (sum_cube-split k_ops k_laws m (after_phase s.k n) (s.k + s.k - n - 1) f (split_phase s.k n u))
    ∙ sym (value-round_polynomial k_ops k_laws s.k s.gates s.values s.place s.bound (s.k + s.k - n - 1) e)

module _ {A : Type 0} (o : Ops A) (l : Laws A o) where
  length-sum-equal : (p q : List A) → length p ≡ length q → length (sum_of o p q) ≡ length q
  length-sum-equal [] q u = refl
  length-sum-equal (c ∷ cs) [] u = absurd (omega arith)
  length-sum-equal (c ∷ cs) (d ∷ ds) u = ap (λ (k : ℕ). suc k) (length-sum-equal cs ds (omega arith))

  length-sums : (d n : ℕ) (f : ℕ → List A) → ((k : ℕ) → length (f k) ≡ d) → length (sum_below (polynomial_ops o) (suc n) f) ≡ d
  length-sums d zero f h = h 0
  length-sums d (suc n) f h = length-sum-equal (sum_below (polynomial_ops o) (suc n) f) (f (suc n)) (length-sums d n f h ∙ sym (h (suc n))) ∙ h (suc n)

-- the messages of the pieces add to the round's message
pub pieces-sum : (s : LayerSum) → length s.bound < s.k + s.k → sum_below (polynomial_ops k_ops) (pieces_of s) (λ piece. coefficients k_ops 3 (piece_poly s piece)) ≡ coefficients k_ops 3 (next_poly s)
pieces-sum s u =
    let some : pieces_of s ≡ suc (pieces_of s - 1) = let p = pow_pos (cuts_left s.k (left_in_phase s.k (length s.bound))) in omega (arith, p) in
    let size : length (sum_below (polynomial_ops k_ops) (pieces_of s) (λ piece. coefficients k_ops 3 (piece_poly s piece))) ≡ 3 =
    ap (λ (n : ℕ). length (sum_below (polynomial_ops k_ops) n (λ piece. coefficients k_ops 3 (piece_poly s piece)))) some
    ∙ length-sums k_ops k_laws 3 (pieces_of s - 1) (λ piece. coefficients k_ops 3 (piece_poly s piece)) (λ piece. length-coefficients k_ops 3 (piece_poly s piece)) in
    from_values 3 (sum_below (polynomial_ops k_ops) (pieces_of s) (λ piece. coefficients k_ops 3 (piece_poly s piece))) (next_poly s) (lit< tt) size (length-round_polynomial k_ops s.k s.gates s.values s.place s.bound (s.k + s.k - length s.bound - 1)) (λ e.
    sum_below-hom (polynomial_ops k_ops) k_ops (λ q. value_at k_ops q e) (value_hom k_ops k_laws e) (pieces_of s) (λ piece. coefficients k_ops 3 (piece_poly s piece))
    ∙ sum_below-same k_ops k_laws (pieces_of s) _ _ (λ piece v. value-coefficients k_ops k_laws 3 (piece_poly s piece) e (length-part k_ops s.k s.gates s.values s.place s.bound (piece * piece_pairs s) (piece * piece_pairs s + piece_pairs s)))
    ∙ pieces-value s e u)
