-- A map that keeps the operations keeps extensions, wirings and summands
use Rattle.std.proofs.Common.{◌≡◌, ℕ, zero, suc, ◌+◌, ◌/◌, ◌%◌, ◌^◌, List, [], ◌∷◌, map, length, get_or, Bool, true, false, if◌then◌else◌, ◌==◌, refl, sym, ◌∙◌, ap, ap₂}
use Rattle.std.proofs.lemmas.List.{length-map}
use Rattle.field_ext.specs.Ring.{Ops}
use Rattle.field_ext.specs.Sums.{sum_below, sum_cube}
use Rattle.field_ext.specs.Multilinear.{eq_poly, extension_at}
use Rattle.circuit_core.specs.declared.gate.Kind.{Kind}
use Rattle.circuit_core.specs.declared.gate.Kind.TheVariants.{Add, Mul}
use Rattle.circuit_core.specs.declared.gate.CircuitGate.{CircuitGate}
use Rattle.wiring_poly.specs.Wiring.{by_kind, sum_gates, gate_weight, wiring_add, wiring_mul, summand}

pub record IsHom {A B : Type 0} (o : Ops A) (p : Ops B) (h : A → B) : Type 0 where
  pub zero : h o.zero ≡ p.zero
  pub one : h o.one ≡ p.one
  pub add : (x y : A) → h (o.add x y) ≡ p.add (h x) (h y)
  pub mul : (x y : A) → h (o.mul x y) ≡ p.mul (h x) (h y)
  pub neg : (x : A) → h (o.neg x) ≡ p.neg (h x)

module _ {A B : Type 0} (o : Ops A) (p : Ops B) (h : A → B) (m : IsHom o p h) where
  if_hom : (b : Bool) (x y : A) → h (if b then x else y) ≡ (if b then h x else h y)
  if_hom true x y = refl
  if_hom false x y = refl

  kind-hom : (kind : Kind) (x y : A) → h (by_kind kind x y) ≡ by_kind kind (h x) (h y)
  kind-hom Add x y = refl
  kind-hom Mul x y = refl

  pub sum_below-hom : (n : ℕ) (f : ℕ → A) → h (sum_below o n f) ≡ sum_below p n (λ k. h (f k))
  sum_below-hom zero f = m.zero
  sum_below-hom (suc n) f = m.add (sum_below o n f) (f n) ∙ ap (λ (t : B). p.add t (h (f n))) (sum_below-hom n f)

  pub sum_gates-hom : (g : ℕ) (gates : List CircuitGate) (f : ℕ → CircuitGate → A) → h (sum_gates o g gates f) ≡ sum_gates p g gates (λ k gate. h (f k gate))
  sum_gates-hom g [] f = m.zero
  sum_gates-hom g (gate ∷ gates) f = m.add (f g gate) (sum_gates o (g + 1) gates f) ∙ ap (p.add (h (f g gate))) (sum_gates-hom (g + 1) gates f)

  pub eq_poly-hom : (us : List A) (g : ℕ) → h (eq_poly o us g) ≡ eq_poly p (map h us) g
  eq_poly-hom [] g = m.one
  eq_poly-hom (u ∷ us) g = m.mul _ _ ∙ ap₂ p.mul (if_hom (g % 2 == 1) u (o.add o.one (o.neg u)) ∙ ap (λ (t : B). if g % 2 == 1 then h u else t) (m.add o.one (o.neg u) ∙ ap₂ p.add m.one (m.neg u))) (eq_poly-hom us (g / 2))

  module _ {C : Type 0} (base : Ops C) (e : C → A) where
    pub extension_at-hom : (t : List C) (us : List A) → h (extension_at o base e t us) ≡ extension_at p base (λ c. h (e c)) t (map h us)
    extension_at-hom t us =
        sum_below-hom (2 ^ length us) (λ g. o.mul (e (get_or t g base.zero)) (eq_poly o us g))
        ∙ ap₂ (sum_below p) (ap (λ (n : ℕ). 2 ^ n) (sym (length-map us h))) (λ i g. (m.mul (e (get_or t g base.zero)) (eq_poly o us g) ∙ ap (p.mul (h (e (get_or t g base.zero)))) (eq_poly-hom us g)) i)

    wire-hom : (z b c : List A) (g : ℕ) (gate : CircuitGate) → h (gate_weight o z b c g gate) ≡ gate_weight p (map h z) (map h b) (map h c) g gate
    wire-hom z b c g gate =
        m.mul _ _ ∙ ap₂ p.mul (eq_poly-hom z g) (m.mul _ _ ∙ ap₂ p.mul (eq_poly-hom b gate.left) (eq_poly-hom c gate.right))

    sum_gates-same : (g : ℕ) (gates : List CircuitGate) (f f' : ℕ → CircuitGate → B) → ((k : ℕ) (gate : CircuitGate) → f k gate ≡ f' k gate) → sum_gates p g gates f ≡ sum_gates p g gates f'
    sum_gates-same g [] f f' e = refl
    sum_gates-same g (gate ∷ gates) f f' e = ap₂ p.add (e g gate) (sum_gates-same (g + 1) gates f f' e)

    pub wiring_add-hom : (gates : List CircuitGate) (z b c : List A) → h (wiring_add o gates z b c) ≡ wiring_add p gates (map h z) (map h b) (map h c)
    wiring_add-hom gates z b c =
        sum_gates-hom 0 gates (λ g gate. by_kind gate.kind (gate_weight o z b c g gate) o.zero)
        ∙ sum_gates-same 0 gates _ _ (λ g gate. kind-hom gate.kind (gate_weight o z b c g gate) o.zero ∙ ap₂ (by_kind gate.kind) (wire-hom z b c g gate) m.zero)

    pub wiring_mul-hom : (gates : List CircuitGate) (z b c : List A) → h (wiring_mul o gates z b c) ≡ wiring_mul p gates (map h z) (map h b) (map h c)
    wiring_mul-hom gates z b c =
        sum_gates-hom 0 gates (λ g gate. by_kind gate.kind o.zero (gate_weight o z b c g gate))
        ∙ sum_gates-same 0 gates _ _ (λ g gate. kind-hom gate.kind o.zero (gate_weight o z b c g gate) ∙ ap₂ (by_kind gate.kind) m.zero (wire-hom z b c g gate))

    pub summand-hom : (gates : List CircuitGate) (t : List C) (z b c : List A) →
        h (summand o base e gates t z b c) ≡ summand p base (λ x. h (e x)) gates t (map h z) (map h b) (map h c)
    summand-hom gates t z b c =
        m.add _ _ ∙ ap₂ p.add
        (m.mul _ _ ∙ ap₂ p.mul (wiring_add-hom gates z b c) (m.add _ _ ∙ ap₂ p.add (extension_at-hom t b) (extension_at-hom t c)))
        (m.mul _ _ ∙ ap₂ p.mul (wiring_mul-hom gates z b c) (m.mul _ _ ∙ ap₂ p.mul (extension_at-hom t b) (extension_at-hom t c)))

  pub sum_cube-hom : (n : ℕ) (f : List A → A) (g : List B → B) → ((w : List A) → h (f w) ≡ g (map h w)) → h (sum_cube o n f) ≡ sum_cube p n g
  sum_cube-hom zero f g e = e []
  sum_cube-hom (suc n) f g e =
      m.add _ _ ∙ ap₂ p.add
      (sum_cube-hom n (λ w. f (o.zero ∷ w)) (λ w. g (p.zero ∷ w)) (λ w. e (o.zero ∷ w) ∙ ap (λ (t : B). g (t ∷ map h w)) m.zero))
      (sum_cube-hom n (λ w. f (o.one ∷ w)) (λ w. g (p.one ∷ w)) (λ w. e (o.one ∷ w) ∙ ap (λ (t : B). g (t ∷ map h w)) m.one))
