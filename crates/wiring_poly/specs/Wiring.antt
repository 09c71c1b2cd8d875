-- The wiring polynomials and the summand of a layer, at coordinates in any ring over the field of the values
use Rattle.std.specs.Prelude.{ℕ, ◌+◌, List, [], ◌∷◌, map, take, drop, slice_index_or}
use Rattle.field_ext.specs.Ring.{Ops}
use Rattle.field_ext.specs.Multilinear.{eq_poly, extension_at}
use Rattle.circuit_core.specs.declared.gate.Kind.{Kind}
use Rattle.circuit_core.specs.declared.gate.Kind.TheVariants.{Add, Mul}
use Rattle.circuit_core.specs.declared.gate.CircuitGate.{CircuitGate}

-- one thing for gates that add, another for those that multiply
abbrev pub by_kind : {X : Type 0} → Kind → X → X → X
by_kind Add x y = x
by_kind Mul x y = y

module _ {A : Type 0} (o : Ops A) where
  infixl 65 ◌⊕◌
  infixl 70 ◌⊗◌
  open o use {add as ◌⊕◌, mul as ◌⊗◌}

  -- the sum of f over the gates, each with its position, which is g for the first
  abbrev pub sum_gates : ℕ → List CircuitGate → (ℕ → CircuitGate → A) → A
  sum_gates g [] f = o.zero
  sum_gates g (gate ∷ gates) f = f g gate ⊕ sum_gates (g + 1) gates f

  -- 1 at the Boolean points that are the positions of this gate and of its operands, 0 at the others
  abbrev pub gate_weight : List A → List A → List A → ℕ → CircuitGate → A
  gate_weight z b c g gate = eq_poly o z g ⊗ (eq_poly o b gate.left ⊗ eq_poly o c gate.right)

  -- the multilinear extension of "the gate at z adds the values at b and c"
  abbrev pub wiring_add : List CircuitGate → List A → List A → List A → A
  wiring_add gates z b c =
      sum_gates 0 gates (λ g gate. by_kind gate.kind (gate_weight z b c g gate) o.zero)

  -- the multilinear extension of "the gate at z multiplies the values at b and c"
  abbrev pub wiring_mul : List CircuitGate → List A → List A → List A → A
  wiring_mul gates z b c =
      sum_gates 0 gates (λ g gate. by_kind gate.kind o.zero (gate_weight z b c g gate))

  -- what sumcheck sums for a layer, where x and y are the extension of the layer below at b and at c
  abbrev pub summand_from : List CircuitGate → List A → List A → List A → A → A → A
  summand_from gates z b c x y = wiring_add gates z b c ⊗ (x ⊕ y) ⊕ wiring_mul gates z b c ⊗ (x ⊗ y)

  module _ {C : Type 0} (base : Ops C) (embed : C → A) where
    -- what sumcheck sums for a layer, over the values of the layer below
    abbrev pub summand : List CircuitGate → List C → List A → List A → List A → A
    summand gates values z b c =
        summand_from gates z b c (extension_at o base embed values b)
        (extension_at o base embed values c)

    -- the same at one list of 2 k coordinates, those of the left operand first
    abbrev pub summand_at : ℕ → List CircuitGate → List C → List A → List A → A
    summand_at k gates values z w = summand gates values z (take k w) (drop k w)

  -- what a gate makes of two values
  abbrev pub gate_output : CircuitGate → A → A → A
  gate_output gate x y = by_kind gate.kind (x ⊕ y) (x ⊗ y)

  -- the values of a layer, from those of the layer below
  abbrev pub values_above : List CircuitGate → List A → List A
  values_above gates below =
      map (λ gate. gate_output gate (slice_index_or below gate.left o.zero)
      (slice_index_or below gate.right o.zero)) gates
