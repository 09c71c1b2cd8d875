-- A true round polynomial has at most three coefficients, a true last message one more than its degree, and a polynomial is known by
-- its values
use Rattle.std.proofs.Common.{◌≡◌, ℕ, zero, suc, ◌+◌, ◌-◌, ◌*◌, ◌/◌, ◌%◌, ◌^◌, ◌<◌, ◌≤◌, ◌⊎◌, inl, inr, List, [], ◌∷◌, ◌++◌, map, length, take, drop, get_or, Bool, true, false, if◌then◌else◌, ◌==◌, refl, arith}
use Rattle.std.proofs.lemmas.List.{length-map}
use Rattle.field_ext.specs.Ring.{Ops, Laws}
use Rattle.field_ext.specs.Polynomial.{value_at, sum_of, product_of, SamePolynomial, polynomial_ops, constant, Distinct}
use Rattle.field_ext.specs.Sums.{sum_below, sum_cube}
use Rattle.field_ext.specs.Multilinear.{eq_poly, extension_at}
use Rattle.circuit_core.specs.declared.gate.Kind.{Kind}
use Rattle.circuit_core.specs.declared.gate.Kind.TheVariants.{Add, Mul}
use Rattle.circuit_core.specs.declared.gate.CircuitGate.{CircuitGate}
use Rattle.wiring_poly.specs.Wiring.{by_kind, sum_gates, gate_weight, wiring_add, wiring_mul}
use Rattle.gkr_layers.specs.Places.{Place, map_place, weighted, weighted_summand}
use Rattle.gkr_layers.specs.Places.Place.{At, AtBoth}
use Rattle.proof_wire.specs.declared.form.ProofForm.{ProofForm}
use Rattle.proof_wire.specs.Forms.{last_degree}
use Rattle.gkr_layers.specs.Forms.{last_polynomial}
use Rattle.proof_wire.specs.declared.form.ProofForm.TheVariants.{Line, Pair}
use Rattle.gkr_layers.specs.Sumcheck.{round_polynomial, line_between, line_polynomial}
use Rattle.gkr_layers.proofs.Soundness.{few_exceptional, length-sum}

-- the degrees of all coordinates together
abbrev pub degrees : {A : Type 0} → List (List A) → ℕ
degrees [] = 0
degrees (u ∷ us) = (length u - 1) + degrees us

pub degrees-append : {A : Type 0} (us vs : List (List A)) → degrees (us ++ vs) ≡ degrees us + degrees vs
degrees-append [] vs = omega arith
degrees-append (u ∷ us) vs = omega (arith, degrees-append us vs)

pub degrees-parts : {A : Type 0} (k : ℕ) (us : List (List A)) → degrees (take k us) + degrees (drop k us) ≡ degrees us
degrees-parts zero us = omega arith
degrees-parts (suc k) [] = omega arith
degrees-parts (suc k) (u ∷ us) = omega (arith, degrees-parts k us)

module _ {A : Type 0} (o : Ops A) where
  pub degrees-constants : (xs : List A) → degrees (map (constant o) xs) ≡ 0
  degrees-constants [] = refl
  degrees-constants (x ∷ xs) = omega (arith, degrees-constants xs)

  length-product : (p q : List A) (m n : ℕ) → length p ≤ m + 1 → length q ≤ n + 1 → length (product_of o p q) ≤ m + n + 1
  length-product [] q m n u v = omega arith
  length-product (c ∷ cs) [] m n u v = omega arith
  length-product (c ∷ cs) (d ∷ ds) zero n u v =
      let s : length (product_of o cs (d ∷ ds)) ≤ n = short cs (omega arith) in
      let r = length-sum o (map (o.mul c) ds) (product_of o cs (d ∷ ds)) n (omega (arith, length-map ds (o.mul c), v)) s in omega (arith, r)
    where
      short : (xs : List A) → length xs ≤ 0 → length (product_of o xs (d ∷ ds)) ≤ n
      short [] h = omega arith
      short (x ∷ xs) h = absurd (omega arith)
  length-product (c ∷ cs) (d ∷ ds) (suc m) n u v =
      let s : length (product_of o cs (d ∷ ds)) ≤ m + n + 1 = length-product cs (d ∷ ds) m n (omega arith) v in
      let r = length-sum o (map (o.mul c) ds) (product_of o cs (d ∷ ds)) (m + n + 1) (omega (arith, length-map ds (o.mul c), v)) s in omega (arith, r)

  pub length-sum_below : (n : ℕ) (f : ℕ → List A) (d : ℕ) → ((k : ℕ) → length (f k) ≤ d) → length (sum_below (polynomial_ops o) n f) ≤ d
  length-sum_below zero f d h = omega arith
  length-sum_below (suc n) f d h = length-sum o (sum_below (polynomial_ops o) n f) (f n) d (length-sum_below n f d h) (h n)

  length-sum_gates : (g : ℕ) (gates : List CircuitGate) (f : ℕ → CircuitGate → List A) (d : ℕ) → ((k : ℕ) (gate : CircuitGate) → length (f k gate) ≤ d) → length (sum_gates (polynomial_ops o) g gates f) ≤ d
  length-sum_gates g [] f d h = omega arith
  length-sum_gates g (gate ∷ gates) f d h = length-sum o (f g gate) (sum_gates (polynomial_ops o) (g + 1) gates f) d (h g gate) (length-sum_gates (g + 1) gates f d h)

  length-eq_poly : (us : List (List A)) (g : ℕ) → length (eq_poly (polynomial_ops o) us g) ≤ degrees us + 1
  length-eq_poly [] g = omega arith
  length-eq_poly (u ∷ us) g =
      length-product (if g % 2 == 1 then u else sum_of o (o.one ∷ []) (map o.neg u)) (eq_poly (polynomial_ops o) us (g / 2)) (length u - 1) (degrees us) (factor (g % 2 == 1)) (length-eq_poly us (g / 2))
    where
      factor : (b : Bool) → length (if b then u else sum_of o (o.one ∷ []) (map o.neg u)) ≤ length u - 1 + 1
      factor true = omega arith
      factor false = length-sum o (o.one ∷ []) (map o.neg u) (length u - 1 + 1) (omega arith) (omega (arith, length-map u o.neg))

  length-extension_at : (t : List A) (us : List (List A)) → length (extension_at (polynomial_ops o) o (constant o) t us) ≤ degrees us + 1
  length-extension_at t us =
      length-sum_below (2 ^ length us) _ (degrees us + 1) (λ g. let h = length-product (constant o (get_or t g o.zero)) (eq_poly (polynomial_ops o) us g) 0 (degrees us) (omega arith) (length-eq_poly us g) in omega (arith, h))

  length-wire : (z b c : List (List A)) (g : ℕ) (gate : CircuitGate) → length (gate_weight (polynomial_ops o) z b c g gate) ≤ degrees z + (degrees b + degrees c) + 1
  length-wire z b c g gate =
      length-product (eq_poly (polynomial_ops o) z g) _ (degrees z) (degrees b + degrees c) (length-eq_poly z g)
      (length-product (eq_poly (polynomial_ops o) b gate.left) (eq_poly (polynomial_ops o) c gate.right) (degrees b) (degrees c) (length-eq_poly b gate.left) (length-eq_poly c gate.right))

  kind_length : (kind : Kind) (p q : List A) (d : ℕ) → length p ≤ d → length q ≤ d → length (by_kind kind p q) ≤ d
  kind_length Add p q d u v = u
  kind_length Mul p q d u v = v

  length-wiring_add : (gates : List CircuitGate) (z b c : List (List A)) → length (wiring_add (polynomial_ops o) gates z b c) ≤ degrees z + (degrees b + degrees c) + 1
  length-wiring_add gates z b c =
      let d : ℕ = degrees z + (degrees b + degrees c) + 1 in
      length-sum_gates 0 gates _ d (λ k gate. kind_length gate.kind (gate_weight (polynomial_ops o) z b c k gate) [] d (length-wire z b c k gate) (omega arith))

  length-wiring_mul : (gates : List CircuitGate) (z b c : List (List A)) → length (wiring_mul (polynomial_ops o) gates z b c) ≤ degrees z + (degrees b + degrees c) + 1
  length-wiring_mul gates z b c =
      let d : ℕ = degrees z + (degrees b + degrees c) + 1 in
      length-sum_gates 0 gates _ d (λ k gate. kind_length gate.kind [] (gate_weight (polynomial_ops o) z b c k gate) d (omega arith) (length-wire z b c k gate))

  -- at places whose points and weights are constants
  length-weighted : (place : Place A) (f : List (List A) → List A) (d : ℕ) → ((z : List (List A)) → length (f z) ≤ degrees z + d + 1) → length (weighted (polynomial_ops o) (map_place (constant o) place) f) ≤ d + 1
  length-weighted (At z) f d h = omega (arith, h (map (constant o) z), degrees-constants z)
  length-weighted (AtBoth b c a) f d h =
      let hb : length (f (map (constant o) b)) ≤ d + 1 = omega (arith, h (map (constant o) b), degrees-constants b) in
      let hc : length (f (map (constant o) c)) ≤ d + 1 = omega (arith, h (map (constant o) c), degrees-constants c) in
      let p : length (product_of o (constant o a) (f (map (constant o) c))) ≤ 0 + d + 1 = length-product (constant o a) (f (map (constant o) c)) 0 d (omega arith) hc in
      length-sum o (f (map (constant o) b)) (product_of o (constant o a) (f (map (constant o) c))) (d + 1) hb (omega (arith, p))

  pub length-weighted_summand : (gates : List CircuitGate) (t : List A) (place : Place A) (b c : List (List A)) →
      length (weighted_summand (polynomial_ops o) o (constant o) gates t (map_place (constant o) place) b c) ≤ 2 * (degrees b + degrees c) + 1
  length-weighted_summand gates t place b c =
      let d : ℕ = degrees b + degrees c in
      let vb : List A = extension_at (polynomial_ops o) o (constant o) t b in
      let vc : List A = extension_at (polynomial_ops o) o (constant o) t c in
      let add : List A = weighted (polynomial_ops o) (map_place (constant o) place) (λ z. wiring_add (polynomial_ops o) gates z b c) in
      let mul : List A = weighted (polynomial_ops o) (map_place (constant o) place) (λ z. wiring_mul (polynomial_ops o) gates z b c) in
      let eb = length-extension_at t b in
      let ec = length-extension_at t c in
      let wa : length add ≤ degrees b + degrees c + 1 = length-weighted place _ (degrees b + degrees c) (λ z. length-wiring_add gates z b c) in
      let wm : length mul ≤ degrees b + degrees c + 1 = length-weighted place _ (degrees b + degrees c) (λ z. length-wiring_mul gates z b c) in
      let s : length (sum_of o vb vc) ≤ degrees b + degrees c + 1 = length-sum o vb vc (degrees b + degrees c + 1) (omega (arith, eb)) (omega (arith, ec)) in
      let p : length (product_of o vb vc) ≤ degrees b + degrees c + 1 = length-product vb vc (degrees b) (degrees c) eb ec in
      let ha = length-product add (sum_of o vb vc) (degrees b + degrees c) (degrees b + degrees c) wa s in
      let hm = length-product mul (product_of o vb vc) (degrees b + degrees c) (degrees b + degrees c) wm p in
      length-sum o (product_of o add (sum_of o vb vc)) (product_of o mul (product_of o vb vc)) (2 * (degrees b + degrees c) + 1) (omega (arith, ha)) (omega (arith, hm))

  pub length-sum_cube : (n : ℕ) (f : List (List A) → List A) (d : ℕ) → ((w : List (List A)) → degrees w ≡ 0 → length (f w) ≤ d) → length (sum_cube (polynomial_ops o) n f) ≤ d
  length-sum_cube zero f d h = h [] refl
  length-sum_cube (suc n) f d h =
      length-sum o _ _ d (length-sum_cube n (λ w. f ([] ∷ w)) d (λ w z. h ([] ∷ w) (omega (arith, z)))) (length-sum_cube n (λ w. f ((o.one ∷ []) ∷ w)) d (λ w z. h ((o.one ∷ []) ∷ w) (omega (arith, z))))

  pub length-round_polynomial : (k : ℕ) (gates : List CircuitGate) (t : List A) (place : Place A) (bound : List A) (n : ℕ) → length (round_polynomial o k gates t place bound n) ≤ 3
  length-round_polynomial k gates t place bound n =
      length-sum_cube n _ 3 (λ w e.
      let ws : List (List A) = map (constant o) bound ++ (o.zero ∷ o.one ∷ []) ∷ w in
      let s = length-weighted_summand gates t place (take k ws) (drop k ws) in
      omega (arith, s, degrees-parts k ws, degrees-append (map (constant o) bound) ((o.zero ∷ o.one ∷ []) ∷ w), degrees-constants bound, e))

  degrees-line : (b c : List A) → degrees (line_between o b c) ≤ length b
  degrees-line [] c = omega arith
  degrees-line (b ∷ bs) [] = omega arith
  degrees-line (b ∷ bs) (c ∷ cs) = omega (arith, degrees-line bs cs)

  pub length-line_polynomial : (t b c : List A) → length (line_polynomial o t b c) ≤ length b + 1
  length-line_polynomial t b c = omega (arith, length-extension_at t (line_between o b c), degrees-line b c)

  pub length-last : (form : ProofForm) (t b c : List A) (k : ℕ) → length b ≤ k → length (last_polynomial o form t b c) ≤ last_degree form k + 1
  length-last Line t b c k u = omega (arith, length-line_polynomial t b c)
  length-last Pair t b c k u = omega arith

  module _ (l : Laws A o) (domain : (x y : A) → o.mul x y ≡ o.zero → (x ≡ o.zero) ⊎ (y ≡ o.zero)) (same : (x y : A) → (x ≡ y) ⊎ (x ≡ y → ⊥)) where
    -- polynomials that agree at more points than their degree are the same
    pub same_from_values : (d : ℕ) (p q points : List A) → length p ≤ d + 1 → length q ≤ d + 1 → Distinct points → d < length points → ((e : A) → value_at o p e ≡ value_at o q e) → SamePolynomial o p q
    same_from_values d p q points u v ds many h j =
        elim (same (get_or p j o.zero) (get_or q j o.zero)) [
          | inl e ↦ e
          | inr n ↦
              let few : length points ≤ d = few_exceptional o l domain d p q u v points ds (λ k y in'. ((λ s. n (s j)), h _)) in
              absurd (omega arith)
        ]
