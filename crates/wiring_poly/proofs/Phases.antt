-- The sum over the coordinates of the left operand that are still free is a sum over the gates
use Rattle.std.proofs.Common.{◌≡◌, ℕ, ◌+◌, ◌/◌, ◌^◌, ◌<◌, List, [], ◌∷◌, ◌++◌, length, take, drop, get_or, All, refl, sym, ◌∙◌, ap, ap₂, arith, append_assoc, length-append}
use Rattle.std.proofs.lemmas.Nat.{shr_below}
use Rattle.field_ext.specs.Ring.{Ops, Laws}
use Rattle.field_ext.specs.Sums.{sum_cube}
use Rattle.field_ext.specs.Multilinear.{eq_poly, extension_at, folded_all, bits_of}
use Rattle.circuit_core.specs.declared.gate.CircuitGate.{CircuitGate}
use Rattle.circuit_core.specs.Parts.{IsOver}
use Rattle.wiring_poly.specs.Wiring.{sum_gates, gate_weight, summand, summand_at, gate_output}
use Rattle.field_ext.proofs.api.Solve.{var, ◌⊗◌, solve}
use Rattle.mle_table.proofs.api.SumLaws.{sum_cube-same, sum_cube-scale}
use Rattle.mle_table.proofs.api.EqualitySteps.{eq-append}
use Rattle.mle_table.proofs.api.Points.{sum-eq, ext-bits, ext-folded_all}
use Rattle.wiring_poly.proofs.api.Identity.{summand_gates, sum_cube-split, sum_cube-sized, sum_cube-gates, sum_gates-all, take-front, drop-front}

module _ {A : Type 0} (o : Ops A) (l : Laws A o) where
  share : (m n : ℕ) (c : A) (x y : ℕ) (h : List A → List A → A) →
      sum_cube o m (λ u. sum_cube o n (λ v. o.mul (o.mul c (o.mul (eq_poly o u x) (eq_poly o v y))) (h u v))) ≡ o.mul c (h (bits_of o m x) (bits_of o n y))
  share m n c x y h =
      sum_cube-same o l m _ _ (λ u.
      sum_cube-same o l n _ (λ v. o.mul (o.mul c (eq_poly o u x)) (o.mul (eq_poly o v y) (h u v)))
      (λ v. solve o l (c ∷ eq_poly o u x ∷ eq_poly o v y ∷ h u v ∷ []) (var 0 ⊗ (var 1 ⊗ var 2) ⊗ var 3) (var 0 ⊗ var 1 ⊗ (var 2 ⊗ var 3)) refl)
      ∙ sum_cube-scale o l n (o.mul c (eq_poly o u x)) (λ v. o.mul (eq_poly o v y) (h u v))
      ∙ ap (o.mul (o.mul c (eq_poly o u x))) (sum-eq o l n y (h u))
      ∙ l.mul_assoc c (eq_poly o u x) (h u (bits_of o n y)))
      ∙ sum_cube-scale o l m c (λ u. o.mul (eq_poly o u x) (h u (bits_of o n y)))
      ∙ ap (o.mul c) (sum-eq o l m x (λ u. h u (bits_of o n y)))

  pub left_sum : (k m : ℕ) (gates : List CircuitGate) (t z pref : List A) → length pref + m ≡ k → All (IsOver (2 ^ k)) gates →
      sum_cube o (m + k) (λ w. summand_at o o (λ x. x) k gates t z (pref ++ w))
      ≡ sum_gates o 0 gates (λ g gate. o.mul (o.mul (eq_poly o z g) (eq_poly o pref gate.left)) (gate_output o gate (get_or (folded_all o t pref) (gate.left / 2 ^ length pref) o.zero) (get_or t gate.right o.zero)))
  left_sum k m gates t z pref s below =
      let V : List A → A = extension_at o o (λ x. x) t in
      sum_cube-split o l m k (m + k) (λ w. summand_at o o (λ x. x) k gates t z (pref ++ w)) refl
      ∙ sum_cube-sized o l m _ (λ u. sum_cube o k (λ v. sum_gates o 0 gates (λ g gate. o.mul (gate_weight o z (pref ++ u) v g gate) (gate_output o gate (V (pref ++ u)) (V v)))))
      (λ u su. sum_cube-same o l k _ _ (λ v.
      at_parts u v (omega (arith, su))
      ∙ summand_gates o l 0 gates (λ g gate. gate_weight o z (pref ++ u) v g gate) (o.add (V (pref ++ u)) (V v)) (o.mul (V (pref ++ u)) (V v))))
      ∙ sum_cube-same o l m _ _ (λ u. sum_cube-gates o l k 0 gates (λ g gate v. o.mul (gate_weight o z (pref ++ u) v g gate) (gate_output o gate (V (pref ++ u)) (V v))))
      ∙ sum_cube-gates o l m 0 gates (λ g gate u. sum_cube o k (λ v. o.mul (gate_weight o z (pref ++ u) v g gate) (gate_output o gate (V (pref ++ u)) (V v))))
      ∙ sum_gates-all o l (IsOver (2 ^ k)) 0 gates _ _ below (λ g gate p.
      let x : ℕ = gate.left / 2 ^ length pref in
      sum_cube-same o l m _ _ (λ u. sum_cube-same o l k _ (λ v. o.mul (o.mul (o.mul (eq_poly o z g) (eq_poly o pref gate.left)) (o.mul (eq_poly o u x) (eq_poly o v gate.right))) (gate_output o gate (V (pref ++ u)) (V v))) (λ v.
      ap (λ (q : A). o.mul (o.mul (eq_poly o z g) (o.mul q (eq_poly o v gate.right))) (gate_output o gate (V (pref ++ u)) (V v))) (eq-append o l pref u gate.left)
      ∙ solve o l (eq_poly o z g ∷ eq_poly o pref gate.left ∷ eq_poly o u x ∷ eq_poly o v gate.right ∷ gate_output o gate (V (pref ++ u)) (V v) ∷ [])
      (var 0 ⊗ (var 1 ⊗ var 2 ⊗ var 3) ⊗ var 4) (var 0 ⊗ var 1 ⊗ (var 2 ⊗ var 3) ⊗ var 4) refl))
      ∙ share m k (o.mul (eq_poly o z g) (eq_poly o pref gate.left)) x gate.right (λ u v. gate_output o gate (V (pref ++ u)) (V v))
      ∙ ap (o.mul (o.mul (eq_poly o z g) (eq_poly o pref gate.left)))
      (ap₂ (gate_output o gate)
      (sym (ext-folded_all o l t pref (bits_of o m x)) ∙ ext-bits o l m x (folded_all o t pref) (shr_below gate.left m (length pref) (small gate.left p.left)))
      (ext-bits o l k gate.right t p.right)))
    where
      small : (a : ℕ) → a < 2 ^ k → a < 2 ^ (m + length pref)
      small a h = let e : k ≡ m + length pref = omega arith in rw (← e) h

      at_parts : (u v : List A) → length pref + length u ≡ k → summand_at o o (λ x. x) k gates t z (pref ++ (u ++ v)) ≡ summand o o (λ x. x) gates t z (pref ++ u) v
      at_parts u v e =
          let n : length (pref ++ u) ≡ k = omega (arith, length-append pref u) in
          ap (summand_at o o (λ x. x) k gates t z) (sym (append_assoc pref u v))
          ∙ ap₂ (summand o o (λ x. x) gates t z)
          (ap (λ (i : ℕ). take i ((pref ++ u) ++ v)) (sym n) ∙ take-front (pref ++ u) v)
          (ap (λ (i : ℕ). drop i ((pref ++ u) ++ v)) (sym n) ∙ drop-front (pref ++ u) v)
