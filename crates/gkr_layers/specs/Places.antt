-- Where the claim on a layer is, at a point or at two at once, and what sumcheck sums for it
use Rattle.std.specs.Prelude.{◌≡◌, ℕ, List, length, map, take, drop}
use Rattle.field_ext.specs.Ring.{Ops}
use Rattle.field_ext.specs.Multilinear.{extension_at}
use Rattle.circuit_core.specs.declared.gate.CircuitGate.{CircuitGate}
use Rattle.wiring_poly.specs.Wiring.{wiring_add, wiring_mul}

pub data Place (A : Type 0) : Type 0 where
  -- a point
  At : List A → Place A
  -- a first point with weight 1, and a second with the weight given
  AtBoth : List A → List A → A → Place A

-- each point has k coordinates
abbrev pub IsOver : {A : Type 0} → ℕ → Place A → Type 0
IsOver k (At z) = length z ≡ k
IsOver k (AtBoth b c a) = (length b ≡ k) × (length c ≡ k)

abbrev pub map_place : {A B : Type 0} → (A → B) → Place A → Place B
map_place h (At z) = At (map h z)
map_place h (AtBoth b c a) = AtBoth (map h b) (map h c) (h a)

module _ {A : Type 0} (o : Ops A) where
  infixl 65 ◌⊕◌
  infixl 70 ◌⊗◌
  open o use {add as ◌⊕◌, mul as ◌⊗◌}

  -- the value of f at the point, or the sum of its weighted values at the two
  abbrev pub weighted : Place A → (List A → A) → A
  weighted (At z) f = f z
  weighted (AtBoth b c a) f = f b ⊕ a ⊗ f c

  -- the extension of a table there
  abbrev pub value_over : List A → Place A → A
  value_over table place = weighted place (extension_at o o (λ x. x) table)

  -- what sumcheck sums for a layer, where x and y are the extension of the layer below at b and at c
  abbrev pub weighted_summand_from : List CircuitGate → Place A → List A → List A → A → A → A
  weighted_summand_from gates place b c x y =
      weighted place (λ z. wiring_add o gates z b c) ⊗ (x ⊕ y) ⊕ weighted place
      (λ z. wiring_mul o gates z b c) ⊗ (x ⊗ y)

  module _ {C : Type 0} (base : Ops C) (embed : C → A) where
    -- the same over the values of the layer below
    abbrev pub weighted_summand : List CircuitGate → List C → Place A → List A → List A → A
    weighted_summand gates values place b c =
        weighted_summand_from gates place b c (extension_at o base embed values b)
        (extension_at o base embed values c)

    -- and at one list of 2 k coordinates, those of the left operand first
    abbrev pub weighted_summand_at : ℕ → List CircuitGate → List C → Place A → List A → A
    weighted_summand_at k gates values place w =
        weighted_summand gates values place (take k w) (drop k w)
