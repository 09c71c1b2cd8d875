-- The equality polynomial and the multilinear extension of a table, at coordinates in any ring over that of the table.
-- The lowest bit of an index belongs to the first coordinate.
use Rattle.std.specs.Prelude.{ℕ, zero, suc, ◌/◌, ◌%◌, ◌^◌, List, [], ◌∷◌, length, if◌then◌else◌, ◌==◌, slice_index_or}
use Rattle.field_ext.specs.Ring.{Ops}
use Rattle.field_ext.specs.Sums.{sum_below}

module _ {A : Type 0} (o : Ops A) where
  infixl 65 ◌⊕◌
  infixl 70 ◌⊗◌
  infix 75 ⊖◌
  open o use {add as ◌⊕◌, mul as ◌⊗◌, neg as ⊖◌}

  -- the product over the coordinates of u where the bit of g is 1, else 1 - u
  abbrev pub eq_poly : List A → ℕ → A
  eq_poly [] g = o.one
  eq_poly (u ∷ us) g = (if g % 2 == 1 then u else o.one ⊕ ⊖ u) ⊗ eq_poly us (g / 2)

  -- the sum over all places g of the table's value there, embedded, times the equality polynomial of g
  abbrev pub extension_at : {C : Type 0} → Ops C → (C → A) → List C → List A → A
  extension_at base embed t us =
      sum_below o (2 ^ length us) (λ g. embed (slice_index_or t g base.zero) ⊗ eq_poly us g)

  -- the table with its first coordinate bound to r: of each two neighbours, the value at r of the line through them
  abbrev pub folded : List A → A → List A
  folded [] r = []
  folded (a ∷ []) r = (a ⊕ r ⊗ (o.zero ⊕ ⊖ a)) ∷ []
  folded (a ∷ b ∷ t) r = (a ⊕ r ⊗ (b ⊕ ⊖ a)) ∷ folded t r

  -- the table with coordinates bound one after another
  abbrev pub folded_all : List A → List A → List A
  folded_all t [] = t
  folded_all t (r ∷ rs) = folded_all (folded t r) rs

  -- the first n bits of u as coordinates, lowest first
  abbrev pub bits_of : ℕ → ℕ → List A
  bits_of zero u = []
  bits_of (suc n) u = (if u % 2 == 1 then o.one else o.zero) ∷ bits_of n (u / 2)
