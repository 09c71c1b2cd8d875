-- The value of a piece of a round is a sum over pairs of the tables
use Rattle.std.proofs.Common.{◌≡◌, ℕ, zero, suc, ◌+◌, ◌-◌, ◌/◌, ◌%◌, ◌^◌, ◌<◌, ◌≤◌, List, [], ◌∷◌, ◌++◌, map, length, take, drop, Bool, true, false, if◌then◌else◌, ◌==◌, refl, sym, ◌∙◌, ap, ap₂, arith, lt-ltb}
use Rattle.std.proofs.lemmas.Bool.{le-ltb}
use Rattle.std.proofs.lemmas.List.{take-map, drop-map, map-append}
use Rattle.field_ext.specs.Ring.{Ops, Laws}
use Rattle.field_ext.specs.Polynomial.{value_at, polynomial_ops, constant}
use Rattle.field_ext.specs.Sums.{sum_below, sum_cube}
use Rattle.field_ext.specs.Multilinear.{bits_of}
use Rattle.mle_table.proofs.api.SumLaws.{sum_below-same}
use Rattle.circuit_core.specs.declared.gate.CircuitGate.{CircuitGate}
use Rattle.wiring_poly.proofs.api.Hom.{sum_below-hom, sum_cube-hom}
use Rattle.gkr_layers.proofs.api.RoundPoly.{value_hom, value-constant, at_point}
use Rattle.gkr_layers.specs.Places.{Place, map_place, weighted_summand, weighted_summand_at}
use Rattle.gkr_layers.proofs.api.PlaceSums.{weighted_summand-hom, place_constants}
use Rattle.table_parts.specs.Tables.{pair_at, StandFor}
use Rattle.round_tables.specs.LayerSum.{left_in_phase, after_phase, part_of_round}
use Rattle.table_parts.proofs.api.RoundPairs.{stand-pair}

pub in_left_phase : (k n : ℕ) → n < k → (left_in_phase k n ≡ k - n) × (after_phase k n ≡ k)
in_left_phase k n u = let b = lt-ltb n k u in (ap (λ (b : Bool). if b then k - n else k + k - n) b, ap (λ (b : Bool). if b then k else 0) b)

pub in_right_phase : (k n : ℕ) → k ≤ n → (left_in_phase k n ≡ k + k - n) × (after_phase k n ≡ 0)
in_right_phase k n u = let b = le-ltb n k u in (ap (λ (b : Bool). if b then k - n else k + k - n) b, ap (λ (b : Bool). if b then k else 0) b)

module _ {A : Type 0} (o : Ops A) (l : Laws A o) where
  bits-hom : (e : A) (n h : ℕ) → map (λ q. value_at o q e) (bits_of (polynomial_ops o) n h) ≡ bits_of o n h
  bits-hom e zero h = refl
  bits-hom e (suc n) h = ap₂ (λ (x : A) (xs : List A). x ∷ xs) (bit (h % 2 == 1)) (bits-hom e n (h / 2))
    where
      bit : (b : Bool) → value_at o (if b then o.one ∷ [] else []) e ≡ (if b then o.one else o.zero)
      bit true = value-constant o l o.one e
      bit false = refl

  -- the value of the summand with e in X's place
  value-summand : (k : ℕ) (gates : List CircuitGate) (values : List A) (z : Place A) (bound : List A) (e : A) (w : List (List A)) →
      value_at o (weighted_summand_at (polynomial_ops o) o (constant o) k gates values (map_place (constant o) z) (map (constant o) bound ++ (o.zero ∷ o.one ∷ []) ∷ w)) e
      ≡ weighted_summand_at o o (λ x. x) k gates values z (bound ++ e ∷ map (λ q. value_at o q e) w)
  value-summand k gates values z bound e w =
      let h : List A → A = λ q. value_at o q e in
      let x : List A = o.zero ∷ o.one ∷ [] in
      weighted_summand-hom (polynomial_ops o) o h (value_hom o l e) o (constant o) gates values (map_place (constant o) z) (take k (map (constant o) bound ++ x ∷ w)) (drop k (map (constant o) bound ++ x ∷ w))
      ∙ moved (sym (take-map h k (map (constant o) bound ++ x ∷ w)) ∙ ap (take k) (at_point o l e bound w)) (sym (drop-map h k (map (constant o) bound ++ x ∷ w)) ∙ ap (drop k) (at_point o l e bound w))
    where
      moved : {b b' c c' : List A} → b ≡ b' → c ≡ c' →
          weighted_summand o o (λ t. value_at o (constant o t) e) gates values (map_place (λ q. value_at o q e) (map_place (constant o) z)) b c ≡ weighted_summand o o (λ t. t) gates values z b' c'
      moved p q = λ i. weighted_summand o o (λ t. value-constant o l t e i) gates values (place_constants o l e z i) (p i) (q i)

  pub value-part : (k : ℕ) (gates : List CircuitGate) (values : List A) (z : Place A) (bound : List A) (from to : ℕ) (e : A) →
      value_at o (part_of_round o k gates values z bound from to) e
      ≡ sum_below o (to - from) (λ j. sum_cube o (after_phase k (length bound)) (λ c. weighted_summand_at o o (λ x. x) k gates values z (bound ++ e ∷ (bits_of o (left_in_phase k (length bound) - 1) (from + j) ++ c))))
  value-part k gates values z bound from to e =
      let h : List A → A = λ q. value_at o q e in
      let m : ℕ = left_in_phase k (length bound) - 1 in
      sum_below-hom (polynomial_ops o) o h (value_hom o l e) (to - from) _
      ∙ sum_below-same o l (to - from) _ _ (λ j u.
      sum_cube-hom (polynomial_ops o) o h (value_hom o l e) (after_phase k (length bound)) _ _ (λ c.
      value-summand k gates values z bound e (bits_of (polynomial_ops o) m (from + j) ++ c)
      ∙ ap (λ (w : List A). weighted_summand_at o o (λ x. x) k gates values z (bound ++ e ∷ w)) (map-append h (bits_of (polynomial_ops o) m (from + j)) c ∙ ap (λ (w : List A). w ++ map h c) (bits-hom e m (from + j)))))

  -- with tables that stand for the phase, a part is a sum over their pairs
  pub part-pairs : (k m : ℕ) (gates : List CircuitGate) (values : List A) (z : Place A) (bound table scales shifts : List A) (from to : ℕ) (e : A) → left_in_phase k (length bound) ≡ suc m → to ≤ 2 ^ m →
      StandFor o (left_in_phase k (length bound)) (λ w. sum_cube o (after_phase k (length bound)) (λ c. weighted_summand_at o o (λ x. x) k gates values z (bound ++ (w ++ c)))) table scales shifts →
      value_at o (part_of_round o k gates values z bound from to) e ≡ sum_below o (to - from) (λ j. pair_at o table scales shifts e (from + j))
  part-pairs k m gates values z bound table scales shifts from to e is below stand =
      let f : List A → A = λ w. sum_cube o (after_phase k (length bound)) (λ c. weighted_summand_at o o (λ x. x) k gates values z (bound ++ (w ++ c))) in
      let one : left_in_phase k (length bound) - 1 ≡ m = omega arith in
      let stand' : StandFor o (suc m) f table scales shifts = λ w s. stand w (s ∙ sym is) in
      value-part k gates values z bound from to e
      ∙ sum_below-same o l (to - from) _ _ (λ j u.
      ap (λ (i : ℕ). f (e ∷ bits_of o i (from + j))) one
      ∙ stand-pair o l m f table scales shifts e (from + j) stand' (omega arith))
