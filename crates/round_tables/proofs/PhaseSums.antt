-- In each phase the sum over the later coordinates is the product of two extensions and a third
use Rattle.std.proofs.Common.{◌≡◌, ℕ, ◌+◌, ◌^◌, ◌<◌, List, [], ◌∷◌, ◌++◌, length, take, drop, get_or, All, refl, sym, ◌∙◌, ap, ap₂}
use Rattle.field_ext.specs.Ring.{Ops, Laws}
use Rattle.field_ext.specs.Sums.{sum_cube}
use Rattle.field_ext.specs.Multilinear.{eq_poly, extension_at}
use Rattle.mle_table.proofs.api.SumLaws.{sum_cube-same, sum_cube-scale}
use Rattle.mle_table.proofs.api.Points.{sum-eq, ext-bits}
use Rattle.circuit_core.specs.declared.gate.Kind.{Kind}
use Rattle.circuit_core.specs.declared.gate.Kind.TheVariants.{Add, Mul}
use Rattle.circuit_core.specs.declared.gate.CircuitGate.{CircuitGate}
use Rattle.wiring_poly.specs.Wiring.{by_kind, sum_gates, gate_weight, summand, summand_at, gate_output}
use Rattle.circuit_core.specs.Parts.{IsOver}
use Rattle.wiring_poly.proofs.api.Identity.{summand_gates, sum_cube-gates, sum_gates-all, take-front, drop-front}
use Rattle.field_ext.proofs.api.Solve.{var, nil, ◌⊕◌, ◌⊗◌, solve}
use Rattle.gkr_layers.specs.Places.{Place, weighted_summand_at}
use Rattle.gkr_layers.specs.Places.Place.{At, AtBoth}
use Rattle.gkr_layers.proofs.api.PlaceSums.{weighted_linear}
use Rattle.round_tables.specs.Weights.{position_weight}
use Rattle.gate_gather.specs.Gathering.{Gathers, scale_of, shift_of}
use Rattle.round_tables.proofs.Gates.{gathered_gates}

module _ {A : Type 0} (o : Ops A) (l : Laws A o) where
  -- a summand at its two points as a sum over the gates
  pub summand-parts : (k : ℕ) (gates : List CircuitGate) (t z b c : List A) → length b ≡ k →
      summand_at o o (λ x. x) k gates t z (b ++ c)
      ≡ sum_gates o 0 gates (λ g gate. o.mul (o.mul (o.mul (eq_poly o z g) (eq_poly o b gate.left)) (eq_poly o c gate.right)) (gate_output o gate (extension_at o o (λ x. x) t b) (extension_at o o (λ x. x) t c)))
  summand-parts k gates t z b c e =
      let V : List A → A = extension_at o o (λ x. x) t in
      ap₂ (summand o o (λ x. x) gates t z)
      (ap (λ (i : ℕ). take i (b ++ c)) (sym e) ∙ take-front b c)
      (ap (λ (i : ℕ). drop i (b ++ c)) (sym e) ∙ drop-front b c)
      ∙ summand_gates o l 0 gates (λ g gate. gate_weight o z b c g gate) (o.add (V b) (V c)) (o.mul (V b) (V c))
      ∙ regrouped 0 gates
    where
      regrouped : (s : ℕ) (gates : List CircuitGate) →
          sum_gates o s gates (λ g gate. o.mul (gate_weight o z b c g gate) (gate_output o gate (extension_at o o (λ x. x) t b) (extension_at o o (λ x. x) t c)))
          ≡ sum_gates o s gates (λ g gate. o.mul (o.mul (o.mul (eq_poly o z g) (eq_poly o b gate.left)) (eq_poly o c gate.right)) (gate_output o gate (extension_at o o (λ x. x) t b) (extension_at o o (λ x. x) t c)))
      regrouped s [] = refl
      regrouped s (gate ∷ gates) =
          ap₂ o.add (ap (λ (x : A). o.mul x (gate_output o gate (extension_at o o (λ x. x) t b) (extension_at o o (λ x. x) t c))) (sym (l.mul_assoc (eq_poly o z s) (eq_poly o b gate.left) (eq_poly o c gate.right)))) (regrouped (s + 1) gates)

  -- weighted sums over gates
  sum_gates-weighted : (a : A) (s : ℕ) (gates : List CircuitGate) (f f' h : ℕ → CircuitGate → A) → ((g : ℕ) (gate : CircuitGate) → o.add (f g gate) (o.mul a (f' g gate)) ≡ h g gate) →
      o.add (sum_gates o s gates f) (o.mul a (sum_gates o s gates f')) ≡ sum_gates o s gates h
  sum_gates-weighted a s [] f f' h e = solve o l (a ∷ []) (nil ⊕ var 0 ⊗ nil) nil refl
  sum_gates-weighted a s (gate ∷ gates) f f' h e =
      solve o l (f s gate ∷ f' s gate ∷ sum_gates o (s + 1) gates f ∷ sum_gates o (s + 1) gates f' ∷ a ∷ []) (var 0 ⊕ var 2 ⊕ var 4 ⊗ (var 1 ⊕ var 3)) (var 0 ⊕ var 4 ⊗ var 1 ⊕ (var 2 ⊕ var 4 ⊗ var 3)) refl
      ∙ ap₂ o.add (e s gate) (sum_gates-weighted a (s + 1) gates f f' h e)

  -- the same at the place of the claim
  placed-parts : (k : ℕ) (gates : List CircuitGate) (t : List A) (z : Place A) (b c : List A) → length b ≡ k →
      weighted_summand_at o o (λ x. x) k gates t z (b ++ c)
      ≡ sum_gates o 0 gates (λ g gate. o.mul (o.mul (o.mul (position_weight o z g) (eq_poly o b gate.left)) (eq_poly o c gate.right)) (gate_output o gate (extension_at o o (λ x. x) t b) (extension_at o o (λ x. x) t c)))
  placed-parts k gates t (At z) b c e = summand-parts k gates t z b c e
  placed-parts k gates t (AtBoth z z' a) b c e =
      let V : List A → A = extension_at o o (λ x. x) t in
      let u : List A = take k (b ++ c) in
      let v : List A = drop k (b ++ c) in
      weighted_linear o l gates (AtBoth z z' a) u v (V u) (V v)
      ∙ ap₂ (λ (x y : A). o.add x (o.mul a y)) (summand-parts k gates t z b c e) (summand-parts k gates t z' b c e)
      ∙ sum_gates-weighted a 0 gates _ _ _ (λ g gate.
      solve o l (eq_poly o z g ∷ eq_poly o z' g ∷ a ∷ eq_poly o b gate.left ∷ eq_poly o c gate.right ∷ gate_output o gate (V b) (V c) ∷ [])
      (var 0 ⊗ var 3 ⊗ var 4 ⊗ var 5 ⊕ var 2 ⊗ (var 1 ⊗ var 3 ⊗ var 4 ⊗ var 5)) ((var 0 ⊕ var 2 ⊗ var 1) ⊗ var 3 ⊗ var 4 ⊗ var 5) refl)

  pub output-comm : (gate : CircuitGate) (x y : A) → gate_output o gate x y ≡ gate_output o gate y x
  output-comm gate x y = of_kind gate.kind
    where
      of_kind : (kind : Kind) → by_kind kind (o.add x y) (o.mul x y) ≡ by_kind kind (o.add y x) (o.mul y x)
      of_kind Mul = l.mul_comm x y
      of_kind Add = l.add_comm x y

  -- the first phase: the right operands are summed over
  pub left_phase : (k : ℕ) (gates : List CircuitGate) (t : List A) (z : Place A) (b scales shifts : List A) → length b ≡ k → length scales ≡ 2 ^ k → length shifts ≡ 2 ^ k → All (IsOver (2 ^ k)) gates →
      Gathers o scales 0 gates (λ gate. gate.left) (λ g gate. scale_of o gate (position_weight o z g) (get_or t gate.right o.zero)) →
      Gathers o shifts 0 gates (λ gate. gate.left) (λ g gate. shift_of o gate (position_weight o z g) (get_or t gate.right o.zero)) →
      sum_cube o k (λ c. weighted_summand_at o o (λ x. x) k gates t z (b ++ c))
      ≡ o.add (o.mul (extension_at o o (λ x. x) t b) (extension_at o o (λ x. x) scales b)) (extension_at o o (λ x. x) shifts b)
  left_phase k gates t z b scales shifts e ls lh below scaled shifted =
      let V : List A → A = extension_at o o (λ x. x) t in
      let P : CircuitGate → Type 0 = IsOver (2 ^ k) in
      let m : 2 ^ k ≡ 2 ^ length b = ap (λ (i : ℕ). 2 ^ i) (sym e) in
      sum_cube-same o l k _ _ (λ c. placed-parts k gates t z b c e)
      ∙ sum_cube-gates o l k 0 gates (λ g gate c. o.mul (o.mul (o.mul (position_weight o z g) (eq_poly o b gate.left)) (eq_poly o c gate.right)) (gate_output o gate (V b) (V c)))
      ∙ sum_gates-all o l P 0 gates _ _ below (λ g gate p. picked (o.mul (position_weight o z g) (eq_poly o b gate.left)) gate p.right)
      ∙ sym (gathered_gates o l (V b) scales shifts b gates (λ gate. gate.left) (λ g gate. position_weight o z g) (λ gate. get_or t gate.right o.zero)
      (ls ∙ m) (lh ∙ m) scaled shifted (λ i d u. rw (← m) (below i d u).left))
    where
      picked : (f : A) (gate : CircuitGate) → gate.right < 2 ^ k →
          sum_cube o k (λ c. o.mul (o.mul f (eq_poly o c gate.right)) (gate_output o gate (extension_at o o (λ x. x) t b) (extension_at o o (λ x. x) t c)))
          ≡ o.mul f (gate_output o gate (extension_at o o (λ x. x) t b) (get_or t gate.right o.zero))
      picked f gate u =
          sum_cube-same o l k _ _ (λ c. l.mul_assoc f (eq_poly o c gate.right) (gate_output o gate (extension_at o o (λ x. x) t b) (extension_at o o (λ x. x) t c)))
          ∙ sum_cube-scale o l k f (λ c. o.mul (eq_poly o c gate.right) (gate_output o gate (extension_at o o (λ x. x) t b) (extension_at o o (λ x. x) t c)))
          ∙ ap (o.mul f) (sum-eq o l k gate.right (λ c. gate_output o gate (extension_at o o (λ x. x) t b) (extension_at o o (λ x. x) t c))
          ∙ ap (gate_output o gate (extension_at o o (λ x. x) t b)) (ext-bits o l k gate.right t u))

  -- the second phase: the left operands are bound
  pub right_phase : (k : ℕ) (gates : List CircuitGate) (t : List A) (z : Place A) (b c scales shifts : List A) → length b ≡ k → length c ≡ k → length scales ≡ 2 ^ k → length shifts ≡ 2 ^ k → All (IsOver (2 ^ k)) gates →
      Gathers o scales 0 gates (λ gate. gate.right) (λ g gate. scale_of o gate (o.mul (position_weight o z g) (eq_poly o b gate.left)) (extension_at o o (λ x. x) t b)) →
      Gathers o shifts 0 gates (λ gate. gate.right) (λ g gate. shift_of o gate (o.mul (position_weight o z g) (eq_poly o b gate.left)) (extension_at o o (λ x. x) t b)) →
      weighted_summand_at o o (λ x. x) k gates t z (b ++ c)
      ≡ o.add (o.mul (extension_at o o (λ x. x) t c) (extension_at o o (λ x. x) scales c)) (extension_at o o (λ x. x) shifts c)
  right_phase k gates t z b c scales shifts e d ls lh below scaled shifted =
      let V : List A → A = extension_at o o (λ x. x) t in
      let P : CircuitGate → Type 0 = IsOver (2 ^ k) in
      let m : 2 ^ k ≡ 2 ^ length c = ap (λ (i : ℕ). 2 ^ i) (sym d) in
      placed-parts k gates t z b c e
      ∙ sum_gates-all o l P 0 gates _ _ below (λ g gate p. ap (o.mul (o.mul (o.mul (position_weight o z g) (eq_poly o b gate.left)) (eq_poly o c gate.right))) (output-comm gate (V b) (V c)))
      ∙ sym (gathered_gates o l (V c) scales shifts c gates (λ gate. gate.right) (λ g gate. o.mul (position_weight o z g) (eq_poly o b gate.left)) (λ gate. V b)
      (ls ∙ m) (lh ∙ m) scaled shifted (λ i d u. rw (← m) (below i d u).right))
