-- The true polynomials of sumcheck's rounds and of the line between two points, and the challenges that let others pass
use Rattle.std.specs.Prelude.{◌≡◌, ℕ, List, [], ◌∷◌, ◌++◌, map}
use Rattle.field_ext.specs.Ring.{Ops}
use Rattle.field_ext.specs.Polynomial.{value_at, IsZero, SamePolynomial, polynomial_ops, constant}
use Rattle.field_ext.specs.Sums.{sum_cube}
use Rattle.field_ext.specs.Multilinear.{extension_at, folded, folded_all}
use Rattle.circuit_core.specs.declared.gate.CircuitGate.{CircuitGate}
use Rattle.gkr_layers.specs.Places.{Place, map_place, weighted_summand_at}

module _ {A : Type 0} (o : Ops A) where
  infixl 65 ◌⊕◌
  infixl 70 ◌⊗◌
  infix 75 ⊖◌
  open o use {add as ◌⊕◌, mul as ◌⊗◌, neg as ⊖◌}

  -- The true polynomial of a round of a layer over 2 ^ k positions: the sum, over all Boolean values of the last n coordinates, of
  -- the summand at the coordinates that are bound, the variable, and those n.
  abbrev pub round_polynomial : ℕ → List CircuitGate → List A → Place A → List A → ℕ → List A
  round_polynomial k gates values place bound n =
      sum_cube (polynomial_ops o) n
      (λ w. weighted_summand_at (polynomial_ops o) o (constant o) k gates values
      (map_place (constant o) place) (map (constant o) bound ++ (o.zero ∷ o.one ∷ []) ∷ w))

  -- the line from b, at 0, to c, at 1: a polynomial for each coordinate
  abbrev pub line_between : List A → List A → List (List A)
  line_between [] cs = []
  line_between (b ∷ bs) [] = []
  line_between (b ∷ bs) (c ∷ cs) = (b ∷ (c ⊕ ⊖ b) ∷ []) ∷ line_between bs cs

  -- the point of that line at e
  abbrev pub point_between : List A → List A → A → List A
  point_between [] cs e = []
  point_between (b ∷ bs) [] e = []
  point_between (b ∷ bs) (c ∷ cs) e = (b ⊕ e ⊗ (c ⊕ ⊖ b)) ∷ point_between bs cs e

  -- the true restriction of a table's extension to that line
  abbrev pub line_polynomial : List A → List A → List A → List A
  line_polynomial values b c =
      extension_at (polynomial_ops o) o (constant o) values (line_between b c)

  -- each message's values at 0 and at 1 add to the claim before it, the next claim is its value at the challenge, and the last is `last`
  abbrev pub RoundsHold : A → List (List A) → List A → A → Type 0
  RoundsHold claim [] [] last = claim ≡ last
  RoundsHold claim [] (r ∷ rs) last = ⊥
  RoundsHold claim (q ∷ qs) [] last = ⊥
  RoundsHold claim (q ∷ qs) (r ∷ rs) last =
      (value_at o q o.zero ⊕ value_at o q o.one ≡ claim) × RoundsHold (value_at o q r) qs rs last

  -- the message q differs from the true polynomial r, and has its value at v
  abbrev pub IsExceptionalFor : List A → List A → A → Type 0
  IsExceptionalFor q r v = (¬ SamePolynomial o q r) × (value_at o q v ≡ value_at o r v)

  -- the difference of two tables
  abbrev pub difference : List A → List A → List A
  difference [] vs = []
  difference (y ∷ ys) [] = []
  difference (y ∷ ys) (v ∷ vs) = (y ⊕ ⊖ v) ∷ difference ys vs

  -- the table d, folded by the challenges before, is not all zero, and its fold by v is
  abbrev pub IsExceptionalFold : List A → List A → A → Type 0
  IsExceptionalFold d before v =
      (¬ IsZero o (folded_all o d before)) × IsZero o (folded o (folded_all o d before) v)
