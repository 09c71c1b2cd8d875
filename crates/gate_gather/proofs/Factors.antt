-- The tables of the second phase from sums of factors
use Rattle.std.proofs.Common.{◌≡◌, ℕ, ◌+◌, ◌<◌, List, [], ◌∷◌, length, get_or, Bool, true, false, if◌then◌else◌, ◌==◌, refl, ◌∙◌, ap, ap₂, arith}
use Rattle.field_ext.specs.Ring.{Ops, Laws}
use Rattle.field_ext.proofs.api.Solve.{var, nil, ◌⊕◌, ◌⊗◌, solve}
use Rattle.circuit_core.specs.declared.gate.Kind.{Kind}
use Rattle.circuit_core.specs.declared.gate.Kind.TheVariants.{Add, Mul}
use Rattle.circuit_core.specs.declared.gate.CircuitGate.{CircuitGate}
use Rattle.wiring_poly.specs.Wiring.{by_kind, sum_gates}
use Rattle.gate_gather.specs.Gathering.{right_of, scale_of, shift_of, factor_of, GathersFactors, GathersRight}

module _ {A : Type 0} (o : Ops A) (l : Laws A o) where
  scale_at : (b : Bool) (kind : Kind) (f w : A) →
      o.add (if b then by_kind kind f o.zero else o.zero) (o.mul w (if b then by_kind kind o.zero f else o.zero)) ≡ (if b then by_kind kind f (o.mul f w) else o.zero)
  scale_at true Add f w = solve o l (f ∷ w ∷ []) (var 0 ⊕ var 1 ⊗ nil) (var 0) refl
  scale_at true Mul f w = solve o l (f ∷ w ∷ []) (nil ⊕ var 1 ⊗ var 0) (var 0 ⊗ var 1) refl
  scale_at false kind f w = solve o l (w ∷ []) (nil ⊕ var 0 ⊗ nil) nil refl

  shift_at : (b : Bool) (kind : Kind) (f w : A) → o.mul w (if b then by_kind kind f o.zero else o.zero) ≡ (if b then by_kind kind (o.mul f w) o.zero else o.zero)
  shift_at true Add f w = l.mul_comm w f
  shift_at true Mul f w = solve o l (w ∷ []) (var 0 ⊗ nil) nil refl
  shift_at false kind f w = solve o l (w ∷ []) (var 0 ⊗ nil) nil refl

  module _ (f : ℕ → CircuitGate → A) (place : CircuitGate → ℕ) (w : A) (x : ℕ) where
    scales_sum : (s : ℕ) (gates : List CircuitGate) →
        o.add (sum_gates o s gates (λ g gate. if place gate == x then by_kind gate.kind (f g gate) o.zero else o.zero)) (o.mul w (sum_gates o s gates (λ g gate. if place gate == x then by_kind gate.kind o.zero (f g gate) else o.zero)))
        ≡ sum_gates o s gates (λ g gate. if place gate == x then scale_of o gate (f g gate) w else o.zero)
    scales_sum s [] = solve o l (w ∷ []) (nil ⊕ var 0 ⊗ nil) nil refl
    scales_sum s (gate ∷ gates) =
        let a : A = if place gate == x then by_kind gate.kind (f s gate) o.zero else o.zero in
        let m : A = if place gate == x then by_kind gate.kind o.zero (f s gate) else o.zero in
        let rest : A = sum_gates o (s + 1) gates (λ g gate. if place gate == x then by_kind gate.kind (f g gate) o.zero else o.zero) in
        let rest' : A = sum_gates o (s + 1) gates (λ g gate. if place gate == x then by_kind gate.kind o.zero (f g gate) else o.zero) in
        solve o l (a ∷ rest ∷ w ∷ m ∷ rest' ∷ []) (var 0 ⊕ var 1 ⊕ var 2 ⊗ (var 3 ⊕ var 4)) (var 0 ⊕ var 2 ⊗ var 3 ⊕ (var 1 ⊕ var 2 ⊗ var 4)) refl
        ∙ ap₂ o.add (scale_at (place gate == x) gate.kind (f s gate) w) (scales_sum (s + 1) gates)

    shifts_sum : (s : ℕ) (gates : List CircuitGate) →
        o.mul w (sum_gates o s gates (λ g gate. if place gate == x then by_kind gate.kind (f g gate) o.zero else o.zero))
        ≡ sum_gates o s gates (λ g gate. if place gate == x then shift_of o gate (f g gate) w else o.zero)
    shifts_sum s [] = solve o l (w ∷ []) (var 0 ⊗ nil) nil refl
    shifts_sum s (gate ∷ gates) =
        l.mul_add w (if place gate == x then by_kind gate.kind (f s gate) o.zero else o.zero) (sum_gates o (s + 1) gates (λ g gate. if place gate == x then by_kind gate.kind (f g gate) o.zero else o.zero))
        ∙ ap₂ o.add (shift_at (place gate == x) gate.kind (f s gate) w) (shifts_sum (s + 1) gates)

  -- the sums of factors, with the left operand's value
  pub gathered_right : (gates : List CircuitGate) (weight left : ℕ → A) (w : A) (from : ℕ) (adds muls scales shifts : List A) →
      length adds ≡ length muls → length scales ≡ length muls → length shifts ≡ length muls → GathersFactors A o gates weight left from adds muls →
      ((x : ℕ) → x < length muls → get_or scales x o.zero ≡ o.add (get_or adds x o.zero) (o.mul w (get_or muls x o.zero))) → ((x : ℕ) → x < length muls → get_or shifts x o.zero ≡ o.mul w (get_or adds x o.zero)) →
      GathersRight A o gates weight left w from scales shifts
  gathered_right gates weight left w from adds muls scales shifts la ls lh factors scaled shifted =
      let f : ℕ → CircuitGate → A = factor_of o weight left in
      record {
        scaled = λ x u.
            let v : x < length muls = omega (arith, u, ls) in
            let z : x < length adds = omega (arith, v, la) in
            scaled x v ∙ ap₂ (λ (a m : A). o.add a (o.mul w m)) (factors.added x z) (factors.multiplied x v) ∙ scales_sum f right_of w (from + x) 0 gates;
        shifted = λ x u.
            let v : x < length muls = omega (arith, u, lh) in
            let z : x < length adds = omega (arith, v, la) in
            shifted x v ∙ ap (o.mul w) (factors.added x z) ∙ shifts_sum f right_of w (from + x) 0 gates;
      }
