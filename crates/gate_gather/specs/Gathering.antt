-- What the gates of a layer give to the places of two tables
use Rattle.std.specs.Prelude.{◌≡◌, ℕ, ◌+◌, ◌<◌, List, length, drop, if◌then◌else◌, ◌==◌, slice_index_or}
use Rattle.field_ext.specs.Ring.{Ops}
use Rattle.circuit_core.specs.declared.gate.CircuitGate.{CircuitGate}
use Rattle.wiring_poly.specs.Wiring.{by_kind, sum_gates}

-- the equality polynomial is read at points of at most so many coordinates
abbrev pub most_coordinates : ℕ
most_coordinates = 20

-- the place of a gate's left operand, and of its right one
abbrev pub left_of : CircuitGate → ℕ
left_of gate = gate.left

abbrev pub right_of : CircuitGate → ℕ
right_of gate = gate.right

module _ {A : Type 0} (o : Ops A) where
  infixl 65 ◌⊕◌
  infixl 70 ◌⊗◌
  open o use {add as ◌⊕◌, mul as ◌⊗◌}

  -- what a gate with this factor, whose other operand has the value x, gives to the multiplier of its operand's value
  abbrev pub scale_of : CircuitGate → A → A → A
  scale_of gate factor x = by_kind gate.kind factor (factor ⊗ x)

  -- and what it gives besides
  abbrev pub shift_of : CircuitGate → A → A → A
  shift_of gate factor x = by_kind gate.kind (factor ⊗ x) o.zero

  -- both in the first phase, where the factor of a gate is the weight of its position
  abbrev pub left_scale : (ℕ → A) → List A → ℕ → CircuitGate → A
  left_scale weight values g gate =
      scale_of gate (weight g) (slice_index_or values gate.right o.zero)

  abbrev pub left_shift : (ℕ → A) → List A → ℕ → CircuitGate → A
  left_shift weight values g gate =
      shift_of gate (weight g) (slice_index_or values gate.right o.zero)

  -- the factor of a gate in the second phase: the weight of its position times that of its left operand
  abbrev pub factor_of : (ℕ → A) → (ℕ → A) → ℕ → CircuitGate → A
  factor_of weight left g gate = weight g ⊗ left gate.left

  -- that of a gate that adds, and that of one that multiplies
  abbrev pub add_factor : (ℕ → A) → (ℕ → A) → ℕ → CircuitGate → A
  add_factor weight left g gate = by_kind gate.kind (factor_of weight left g gate) o.zero

  abbrev pub mul_factor : (ℕ → A) → (ℕ → A) → ℕ → CircuitGate → A
  mul_factor weight left g gate = by_kind gate.kind o.zero (factor_of weight left g gate)

  -- what the gates from position g on give to the place x, each the weight of its place
  abbrev pub given_from : ℕ → List CircuitGate → (CircuitGate → ℕ) → (ℕ → CircuitGate → A) → ℕ → A
  given_from g gates place weight x =
      sum_gates o g (drop g gates) (λ g gate. if place gate == x then weight g gate else o.zero)

  -- the table is that of the places from `from` on: each has what all gates give to it
  abbrev pub Gathers : List A → ℕ → List CircuitGate → (CircuitGate → ℕ) → (ℕ → CircuitGate → A)
      → Type 0
  Gathers t from gates place weight =
      (x : ℕ) → x < length t
      → slice_index_or t x o.zero ≡ given_from 0 gates place weight (from + x)

-- the tables of the first phase, by left operands
pub record GathersLeft (A : Type 0) (o : Ops A) (gates : List CircuitGate) (weight : ℕ → A)
    (values : List A) (from : ℕ) (scales shifts : List A) : Type 0 where
  pub scaled : Gathers o scales from gates left_of (left_scale o weight values)
  pub shifted : Gathers o shifts from gates left_of (left_shift o weight values)

-- by right operands, the sums of the factors of the gates that add, and of those that multiply
pub record GathersFactors (A : Type 0) (o : Ops A) (gates : List CircuitGate) (weight left : ℕ → A)
    (from : ℕ) (adds muls : List A) : Type 0 where
  pub added : Gathers o adds from gates right_of (add_factor o weight left)
  pub multiplied : Gathers o muls from gates right_of (mul_factor o weight left)

-- the tables of the second phase, by right operands, where the left one is bound and has the value `value`
pub record GathersRight (A : Type 0) (o : Ops A) (gates : List CircuitGate) (weight left : ℕ → A)
    (value : A) (from : ℕ) (scales shifts : List A) : Type 0 where
  pub scaled : Gathers o scales from gates right_of
      (λ g gate. scale_of o gate (factor_of o weight left g gate) value)
  pub shifted : Gathers o shifts from gates right_of
      (λ g gate. shift_of o gate (factor_of o weight left g gate) value)
