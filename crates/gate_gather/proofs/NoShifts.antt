-- Multiply gates and carries give nothing besides
use Rattle.std.proofs.Common.{◌≡◌, ◌≢◌, ℕ, ◌+◌, ◌<◌, List, [], ◌∷◌, length, get_or, Bool, true, false, if◌then◌else◌, ◌==◌, All, refl, sym, ◌∙◌, ap, ap₂}
use Rattle.std.proofs.lemmas.Bool.{ne_eqb}
use Rattle.std.proofs.lemmas.List.Elements.{All-head, All-tail}
use Rattle.field_ext.specs.Ring.{Ops, Laws}
use Rattle.field_ext.proofs.api.Rings.{mul_zero}
use Rattle.circuit_core.specs.declared.gate.Kind.{Kind}
use Rattle.circuit_core.specs.declared.gate.Kind.TheVariants.{Add, Mul}
use Rattle.circuit_core.specs.declared.gate.CircuitGate.{CircuitGate}
use Rattle.wiring_poly.specs.Wiring.{by_kind, sum_gates}
use Rattle.gate_gather.specs.Gathering.{factor_of, GathersLeft, GathersRight}
use Rattle.gate_gather.specs.Carries.{MultipliesOrCarries, HasNoSums}

module _ {A : Type 0} (o : Ops A) (l : Laws A o) where
  none_given : (s : ℕ) (gates : List CircuitGate) (f : ℕ → CircuitGate → A) → All MultipliesOrCarries gates →
      ((g : ℕ) (gate : CircuitGate) → MultipliesOrCarries gate → f g gate ≡ o.zero) → sum_gates o s gates f ≡ o.zero
  none_given s [] f a e = refl
  none_given s (gate ∷ gates) f a e =
      ap₂ o.add (e s gate (All-head MultipliesOrCarries gate gates a)) (none_given (s + 1) gates f (All-tail MultipliesOrCarries gate gates a) e) ∙ l.add_zero o.zero

  either : (b : Bool) → (if b then o.zero else o.zero) ≡ o.zero
  either true = refl
  either false = refl

  by_carry : (kind : Kind) (right : ℕ) (f : A) (values : List A) → get_or values 0 o.zero ≡ o.zero → (kind ≡ Add → right ≡ 0) → by_kind kind (o.mul f (get_or values right o.zero)) o.zero ≡ o.zero
  by_carry Add right f values z h = ap (λ (r : ℕ). o.mul f (get_or values r o.zero)) (h refl) ∙ ap (o.mul f) z ∙ mul_zero o l f
  by_carry Mul right f values z h = refl

  elsewhere : (kind : Kind) (right y : ℕ) (v : A) → y ≢ 0 → (kind ≡ Add → right ≡ 0) → (if right == y then by_kind kind v o.zero else o.zero) ≡ o.zero
  elsewhere Add right y v n h = ap (λ (b : Bool). if b then v else o.zero) (ne_eqb right y (λ e. n (sym e ∙ h refl)))
  elsewhere Mul right y v n h = either (right == y)

  pub first_phase : (gates : List CircuitGate) (weight : ℕ → A) (values : List A) (from : ℕ) (scales shifts : List A) → HasNoSums A o gates values →
      GathersLeft A o gates weight values from scales shifts → (x : ℕ) → x < length shifts → get_or shifts x o.zero ≡ o.zero
  first_phase gates weight values from scales shifts none gathers x u =
      gathers.shifted x u
      ∙ none_given 0 gates _ none.gates_do (λ g gate p.
      ap (λ (w : A). if gate.left == from + x then w else o.zero) (by_carry gate.kind gate.right (weight g) values none.zero_first p) ∙ either (gate.left == from + x))

  pub second_phase : (gates : List CircuitGate) (weight left : ℕ → A) (values : List A) (value : A) (from : ℕ) (scales shifts : List A) → HasNoSums A o gates values →
      GathersRight A o gates weight left value from scales shifts → (x : ℕ) → x < length shifts → from + x ≢ 0 → get_or shifts x o.zero ≡ o.zero
  second_phase gates weight left values value from scales shifts none gathers x u n =
      gathers.shifted x u
      ∙ none_given 0 gates _ none.gates_do (λ g gate p. elsewhere gate.kind gate.right (from + x) (o.mul (factor_of o weight left g gate) value) n p)
