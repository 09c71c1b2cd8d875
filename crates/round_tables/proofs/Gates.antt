-- What the gates send to the places of a table
use Rattle.std.proofs.Common.{◌≡◌, ℕ, ◌+◌, ◌^◌, ◌<◌, List, [], ◌∷◌, length, Bool, true, false, if◌then◌else◌, ◌==◌, All, refl, sym, ◌∙◌, ap, ap₂, arith}
use Rattle.field_ext.specs.Ring.{Ops, Laws}
use Rattle.field_ext.proofs.api.Solve.{var, nil, ◌⊕◌, ◌⊗◌, solve}
use Rattle.field_ext.specs.Multilinear.{eq_poly, extension_at}
use Rattle.mle_table.proofs.api.SumLaws.{sum_below-same}
use Rattle.circuit_core.specs.declared.gate.Kind.{Kind}
use Rattle.circuit_core.specs.declared.gate.Kind.TheVariants.{Add, Mul}
use Rattle.circuit_core.specs.declared.gate.CircuitGate.{CircuitGate}
use Rattle.wiring_poly.specs.Wiring.{by_kind, sum_gates, gate_output}
use Rattle.wiring_poly.proofs.api.Identity.{sum_gates-all}
use Rattle.gate_gather.specs.Gathering.{Gathers, scale_of, shift_of}
use Rattle.round_tables.proofs.Sums.{sum_below-pick, sum_gates-scale, sum_below-gates}

module _ {A : Type 0} (o : Ops A) (l : Laws A o) where
  sent : (b : Bool) (w e : A) → o.mul (if b then w else o.zero) e ≡ (if b then o.mul w e else o.zero)
  sent true w e = refl
  sent false w e = solve o l (e ∷ []) (nil ⊗ var 0) nil refl

  -- in a table that begins with place 0 each place is at its own number
  at_place : (gates : List CircuitGate) (place : CircuitGate → ℕ) (weight : ℕ → CircuitGate → A) (x : ℕ) →
      sum_gates o 0 gates (λ g gate. if place gate == 0 + x then weight g gate else o.zero) ≡ sum_gates o 0 gates (λ g gate. if place gate == x then weight g gate else o.zero)
  at_place gates place weight x = let e : 0 + x ≡ x = omega arith in ap (λ (y : ℕ). sum_gates o 0 gates (λ g gate. if place gate == y then weight g gate else o.zero)) e

  -- the extension of a gathered table as a sum over the gates
  pub ext-gathers : (t us : List A) (gates : List CircuitGate) (place : CircuitGate → ℕ) (weight : ℕ → CircuitGate → A) →
      length t ≡ 2 ^ length us → Gathers o t 0 gates place weight → All (λ gate. place gate < 2 ^ length us) gates →
      extension_at o o (λ x. x) t us ≡ sum_gates o 0 gates (λ g gate. o.mul (weight g gate) (eq_poly o us (place gate)))
  ext-gathers t us gates place weight size gathers below =
      let n : ℕ = 2 ^ length us in
      sum_below-same o l n _ _ (λ x u.
      ap (λ (y : A). o.mul y (eq_poly o us x)) (gathers x (omega (arith, size, u)) ∙ at_place gates place weight x)
      ∙ sum_gates-scale o l 0 gates (λ g gate. if place gate == x then weight g gate else o.zero) (eq_poly o us x)
      ∙ sum_gates-all o l (λ gate. place gate < n) 0 gates _ _ below (λ g gate p. sent (place gate == x) (weight g gate) (eq_poly o us x)))
      ∙ sum_below-gates o l n 0 gates (λ g gate x. if place gate == x then o.mul (weight g gate) (eq_poly o us x) else o.zero)
      ∙ sum_gates-all o l (λ gate. place gate < n) 0 gates _ _ below (λ g gate p. sum_below-pick o l n (place gate) (λ x. o.mul (weight g gate) (eq_poly o us x)) p)

  pub sum_gates-add : (s : ℕ) (gates : List CircuitGate) (f h : ℕ → CircuitGate → A) → sum_gates o s gates (λ g gate. o.add (f g gate) (h g gate)) ≡ o.add (sum_gates o s gates f) (sum_gates o s gates h)
  sum_gates-add s [] f h = sym (l.add_zero o.zero)
  sum_gates-add s (gate ∷ gates) f h =
      ap (o.add (o.add (f s gate) (h s gate))) (sum_gates-add (s + 1) gates f h)
      ∙ solve o l (f s gate ∷ h s gate ∷ sum_gates o (s + 1) gates f ∷ sum_gates o (s + 1) gates h ∷ []) (var 0 ⊕ var 1 ⊕ (var 2 ⊕ var 3)) (var 0 ⊕ var 2 ⊕ (var 1 ⊕ var 3)) refl

  shared : (kind : Kind) (v f x e : A) →
      o.add (o.mul v (o.mul (by_kind kind f (o.mul f x)) e)) (o.mul (by_kind kind (o.mul f x) o.zero) e) ≡ o.mul (o.mul f e) (by_kind kind (o.add v x) (o.mul v x))
  shared Mul v f x e = solve o l (v ∷ f ∷ x ∷ e ∷ []) (var 0 ⊗ (var 1 ⊗ var 2 ⊗ var 3) ⊕ nil ⊗ var 3) (var 1 ⊗ var 3 ⊗ (var 0 ⊗ var 2)) refl
  shared Add v f x e = solve o l (v ∷ f ∷ x ∷ e ∷ []) (var 0 ⊗ (var 1 ⊗ var 3) ⊕ var 1 ⊗ var 2 ⊗ var 3) (var 1 ⊗ var 3 ⊗ (var 0 ⊕ var 2)) refl

  sum_gates-mul : (s : ℕ) (gates : List CircuitGate) (f : ℕ → CircuitGate → A) (v : A) → o.mul v (sum_gates o s gates f) ≡ sum_gates o s gates (λ g gate. o.mul v (f g gate))
  sum_gates-mul s [] f v = solve o l (v ∷ []) (var 0 ⊗ nil) nil refl
  sum_gates-mul s (gate ∷ gates) f v = l.mul_add v (f s gate) (sum_gates o (s + 1) gates f) ∙ ap (o.add (o.mul v (f s gate))) (sum_gates-mul (s + 1) gates f v)

  -- the value times the extension of the gathered scales, and that of the shifts, is a sum over the gates
  pub gathered_gates : (v : A) (scales shifts us : List A) (gates : List CircuitGate) (place : CircuitGate → ℕ) (factor : ℕ → CircuitGate → A) (other : CircuitGate → A) →
      length scales ≡ 2 ^ length us → length shifts ≡ 2 ^ length us →
      Gathers o scales 0 gates place (λ g gate. scale_of o gate (factor g gate) (other gate)) →
      Gathers o shifts 0 gates place (λ g gate. shift_of o gate (factor g gate) (other gate)) →
      All (λ gate. place gate < 2 ^ length us) gates →
      o.add (o.mul v (extension_at o o (λ x. x) scales us)) (extension_at o o (λ x. x) shifts us)
      ≡ sum_gates o 0 gates (λ g gate. o.mul (o.mul (factor g gate) (eq_poly o us (place gate))) (gate_output o gate v (other gate)))
  gathered_gates v scales shifts us gates place factor other ls lh scaled shifted below =
      let s : ℕ → CircuitGate → A = λ g gate. o.mul (scale_of o gate (factor g gate) (other gate)) (eq_poly o us (place gate)) in
      let h : ℕ → CircuitGate → A = λ g gate. o.mul (shift_of o gate (factor g gate) (other gate)) (eq_poly o us (place gate)) in
      ap₂ (λ (x y : A). o.add (o.mul v x) y) (ext-gathers scales us gates place _ ls scaled below) (ext-gathers shifts us gates place _ lh shifted below)
      ∙ ap (λ (x : A). o.add x (sum_gates o 0 gates h)) (sum_gates-mul 0 gates s v)
      ∙ sym (sum_gates-add 0 gates (λ g gate. o.mul v (s g gate)) h)
      ∙ sum_gates-all o l (λ gate. place gate < 2 ^ length us) 0 gates _ _ below (λ g gate p. shared gate.kind v (factor g gate) (other gate) (eq_poly o us (place gate)))
